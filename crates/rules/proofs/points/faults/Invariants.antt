-- The loop of `rules::points::faults`: the smallest places and the marks, as far as it has come. Assumes nothing.
use Rattle.rules.proofs.PointsLaws.{Walked}
use Rattle.rules.proofs.points.faults.Given as goal

abbrev pub invariant-loop-p : goal.invariant-loop-p
invariant-loop-p l = let q = l.fn.all.proposal in Walked q.table.words.now q.words.now l.fn.r.from l.p l.fn.marks l.found l.marks
