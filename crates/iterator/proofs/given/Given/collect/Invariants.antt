-- The heads before this one whose entry is there are noted.
-- Assumes nothing.
use Rattle.iterator.specs.Write.{Puts}
use Rattle.iterator.proofs.WriteLaws.{noted}
use Rattle.iterator.proofs.given.Given.collect.Given as goal

abbrev pub invariant-loop-c : goal.invariant-loop-c
invariant-loop-c l = Puts l.initial.heads 0 (noted l.self l.state l.c) l.heads l.count
