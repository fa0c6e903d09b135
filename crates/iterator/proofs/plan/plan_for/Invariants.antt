-- The plan has what is known of the points before this one.
-- Assumes nothing.
use Rattle.proposer.specs.Walk.{held_in}
use Rattle.iterator.specs.Book.{Upto}
use Rattle.iterator.proofs.plan.plan_for.Given as goal

abbrev pub invariant-loop-p : goal.invariant-loop-p
invariant-loop-p l = Upto l.t.words.now (held_in l.t.words.now l.marks) l.p l.plan
