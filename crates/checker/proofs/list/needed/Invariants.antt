-- `checker::list::needed` meets its contract: the loop's count is the words of the nodes passed. Assumes nothing.
use Prim.Native.Nat.{◌*◌, ◌≤◌}
use mathlib.Core.Path.{◌≡◌}
use lib.ListN.{length}
use Rattle.checker.specs.AlarmList.{pairs_of, marked_at}
use Rattle.checker.proofs.list.needed.Given as goal

abbrev pub invariant-loop-n : goal.invariant-loop-n
invariant-loop-n l = (l.count ≡ length (pairs_of (marked_at l.marks) l.n)) × (l.count ≤ 4 * l.n)
