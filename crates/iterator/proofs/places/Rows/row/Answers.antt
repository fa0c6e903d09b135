-- `iterator::places::Rows::row` meets its contract: the row's first intervals are those of the place. Assumes nothing.
use Rattle.std.proofs.Common.{◌≡◌, Some, sym, ap, ◌∙◌, arith}
use Rattle.std.specs.Prelude.{Option}
use Rattle.std.specs.Option.{option_map}
use Rattle.analysis.specs.declared.Row.{Row}
use Rattle.analysis.specs.Rows.{own_of}
use Rattle.proposer.specs.Widen.{trimmed_of}
use Rattle.iterator.proofs.CutLaws.{Slots, trimmed-front, own-trimmed, own-clear}
use Rattle.iterator.proofs.PlaceLaws.{place_is}
use Rattle.iterator.proofs.places.Rows.row.Goals as goal

pub returns-in_err-row-clause-value : goal.returns-in_err-row-clause-value
returns-in_err-row-clause-value c k below =
    let f = λ (m : Option Row). option_map (trimmed_of c.args.n) m in
    ap f c.from_residual.ensures ∙ sym (place_is _ _ _ _ _ below ∙ ap f c.in_err-row.was)

pub returns-clause-value : goal.returns-clause-value
returns-clause-value c k below =
    let n = c.args.n in
    let row = c.in_ok-row.row in
    let slots : Slots row = record { lows = omega arith; highs = omega arith } in
    let own : c.own.result ≡ own_of (trimmed_of n row) = c.own.ensures ∙ ap (λ (r : Row). own_of r) (trimmed-front n c.requires.0 row slots) in
    ap (λ (r : Row). Some (trimmed_of n r)) own ∙ ap Some (own-trimmed n c.requires.0 row)
    ∙ sym (place_is _ _ _ _ _ below ∙ ap (λ (m : Option Row). option_map (trimmed_of n) m) c.in_ok-row.was)

pub returns-clause-clear : goal.returns-clause-clear
returns-clause-clear c =
    let n = c.args.n in
    let row = c.in_ok-row.row in
    let slots : Slots row = record { lows = omega arith; highs = omega arith } in
    let own : c.own.result ≡ own_of (trimmed_of n row) = c.own.ensures ∙ ap (λ (r : Row). own_of r) (trimmed-front n c.requires.0 row slots) in
    rw own (own-clear n c.requires.0 row)
