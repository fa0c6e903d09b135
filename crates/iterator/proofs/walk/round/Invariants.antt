-- `iterator::walk::round` meets its contract: what the marks before i lead to is marked. Assumes nothing.
use Rattle.proposer.specs.Fold.{fold_below}
use Rattle.proposer.specs.Walk.{walk_on}
use Rattle.iterator.specs.Marks.{Marked}
use Rattle.iterator.proofs.walk.round.Given as goal

abbrev pub invariant-loop-i : goal.invariant-loop-i
invariant-loop-i l = Marked (fold_below (walk_on l.t.words.now) l.initial.marks l.i) l.initial.marks l.marks l.new
