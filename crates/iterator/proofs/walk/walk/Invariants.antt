-- `iterator::walk::walk` meets its contract: so many rounds are made. Assumes nothing.
use Rattle.std.proofs.Common.{◌≡◌, ℕ, List, Bool}
use Rattle.proposer.specs.Fold.{fold_below}
use Rattle.proposer.specs.Walk.{round_of, first_marks}
use Rattle.iterator.proofs.walk.walk.Given as goal

abbrev pub invariant-loop : goal.invariant-loop
invariant-loop l = l.marks ≡ fold_below (λ (m : List Bool) (_ : ℕ). round_of l.t.words.now m) (first_marks l.t.words.now) l.counter
