-- `rules::start::first_start_point` meets its contract: each task before u can start, so every point before its first passes refusal 11, and the
-- loop is left at the first task that can't, or past the last. Assumes nothing.
use Rattle.rules.proofs.StartLaws.{Started}
use Rattle.rules.proofs.start.first_start_point.Given as goal

abbrev pub invariant-loop-u : goal.invariant-loop-u
invariant-loop-u l = Started l.p l.u l.first
