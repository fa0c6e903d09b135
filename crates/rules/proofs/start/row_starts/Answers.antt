-- `rules::start::row_starts` meets its contract: the ends of a row are there. Assumes nothing.
use native.Mathlib.Omega.{arith}
use Rattle.analysis.specs.declared.Row.{Row}
use mathlib.Core.Path.{ap}
use lib.ListN.{length}
use Rattle.rules.proofs.CheckedLaws.{bounded_of}
use Rattle.rules.proofs.PartsLaws.{row-lows-length, row-highs-length}
use Rattle.rules.proofs.start.row_starts.Goals as goal

pub holds_start-requires : goal.holds_start-requires
holds_start-requires c =
    let b = bounded_of c.args.p.now in
    let low = row-lows-length b c.args.k c.requires in
    let high = row-highs-length b c.args.k c.requires in
    let same_low = ap (λ (r : Row). length r.lows) c.row.ensures in
    let same_high = ap (λ (r : Row). length r.highs) c.row.ensures in
    (omega arith, omega arith)
