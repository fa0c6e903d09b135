-- `checker::list::write` meets its contract: the pairs of the nodes passed stand at the front of the buffer. Assumes nothing.
use mathlib.Core.Path.{◌≡◌}
use lib.ListN.{length}
use Rattle.checker.specs.AlarmList.{pairs_of, marked_at}
use Rattle.checker.proofs.BufferLaws.{front}
use Rattle.checker.proofs.list.write.Given as goal

abbrev pub invariant-loop-n : goal.invariant-loop-n
invariant-loop-n l = (l.at ≡ length (pairs_of (marked_at l.marks) l.n)) × (l.out ≡ front (pairs_of (marked_at l.marks) l.n) l.initial.out)
