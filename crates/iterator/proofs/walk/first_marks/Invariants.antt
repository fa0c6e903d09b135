-- `iterator::walk::first_marks` meets its contract: the first points of the tasks before u are marked. Assumes nothing.
use Rattle.std.proofs.Common.{◌≡◌, ℕ, List, Bool, true, set}
use Rattle.table.specs.Layout.{first_of}
use Rattle.proposer.specs.Fold.{fold_below}
use Rattle.proposer.specs.Walk.{mark_at}
use Rattle.iterator.proofs.walk.first_marks.Given as goal

abbrev pub invariant-loop-u : goal.invariant-loop-u
invariant-loop-u l = l.marks ≡ fold_below (λ (m : List Bool) (u : ℕ). set m (mark_at l.t.words.now (first_of l.t.words.now u) 0) true) l.initial.marks l.u
