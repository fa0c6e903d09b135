-- `iterator::given::Given::disturb_all` meets its contract: the entries at the places before this one in the list are taken in. Assumes nothing.
use Rattle.std.proofs.Common.{◌≡◌}
use Rattle.proposer.specs.Fold.{fold_below}
use Rattle.proposer.specs.Passes.{disturb}
use Rattle.iterator.specs.Given.{table_of, thresholds_of, held_by, parts_by}
use Rattle.iterator.proofs.FoldLaws.{along_of}
use Rattle.iterator.proofs.given.Given.disturb_all.Given as goal

abbrev pub invariant-loop-q : goal.invariant-loop-q
invariant-loop-q l =
    let g = l.fn.self in
    parts_by g l.rows l.fn.entries
    ≡ fold_below (along_of (disturb (table_of g) (thresholds_of g) (held_by g) l.fn.p) l.q-items) (parts_by g l.initial.rows l.fn.entries) l.q-index
