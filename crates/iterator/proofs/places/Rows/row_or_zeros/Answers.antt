-- `iterator::places::Rows::row_or_zeros` meets its contract: a row that isn't there is zeros. Assumes nothing.
use Rattle.std.proofs.Common.{◌≡◌, refl, sym, ap, ◌∙◌}
use Rattle.std.specs.Prelude.{Option, None, Some}
use Rattle.std.specs.Option.{option_map, unwrap_or}
use Rattle.analysis.specs.declared.Row.{Row}
use Rattle.proposer.specs.Widen.{trimmed_of}
use Rattle.proposer.specs.Passes.{row_in}
use Rattle.iterator.proofs.CutLaws.{zeros-trimmed}
use Rattle.iterator.proofs.PlaceLaws.{place_is}
use Rattle.iterator.proofs.places.Rows.row_or_zeros.Goals as goal

pub returns : goal.returns
unfolding row_in
returns c n k few below =
    ap (λ (r : Row). trimmed_of n r) c.unwrap_or.ensures ∙ by _
    ∙ sym (ap (λ (m : Option Row). row_in n m) (place_is _ _ _ _ _ below))
  where
    by : (m : Option Row) → trimmed_of n (unwrap_or m c.default.result) ≡ row_in n (option_map (trimmed_of n) m)
    by None = zeros-trimmed n few c.default.result c.default.ensures
    by (Some r) = refl
