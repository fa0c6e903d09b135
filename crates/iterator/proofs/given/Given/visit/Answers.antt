-- `iterator::given::Given::visit` meets its contract: nothing is done where no row is. Assumes nothing.
use Rattle.std.proofs.Common.{◌+◌, ◌<◌, get_or, sym, ap, ◌∙◌, arith}
use Rattle.std.specs.Prelude.{Option, None}
use Rattle.std.specs.Option.{option_map}
use Rattle.table.specs.Layout.{sizes_of}
use Rattle.analysis.specs.declared.Row.{Row}
use Rattle.proposer.specs.Widen.{trimmed_of}
use Rattle.iterator.specs.Given.{table_of, thresholds_of, held_by, state_by}
use Rattle.iterator.proofs.PlaceLaws.{place_is, absent}
use Rattle.iterator.proofs.VisitLaws.{visit-unreached}
use Rattle.iterator.proofs.given.Given.visit.Goals as goal

pub returns-else-is_some : goal.returns-else-is_some
returns-else-is_some c =
    let g = c.args.self.now in
    let rows = c.args.state.now.rows in
    let p = c.args.p in
    let n = (sizes_of (table_of g)).variables in
    let below : p < (sizes_of (table_of g)).points + (sizes_of (table_of g)).mutexes = omega (arith, c.requires.p_bound) in
    sym (visit-unreached (table_of g) (thresholds_of g) (held_by g) (state_by g c.args.state.now) p (place_is (trimmed_of n) _ rows.at rows.moved p below
    ∙ ap (λ (m : Option Row). option_map (trimmed_of n) m) (absent (get_or rows.at p None) c.is_some.ensures c.if-is_some.false)))
