-- `table::layout::task_in`: the owner is the last of the tasks before k whose first point isn't past p, and the sum is the first point of task k.
-- Without shares the loop is left at 1, so that both k - 1 and the last task are 0. Assumes nothing.
use Prim.Native.Nat.{◌-◌, ◌*◌, ◌≤◌}
use mathlib.Core.Path.{◌≡◌}
use lib.ListN.{length}
use Rattle.table.specs.Layout.{first_in, last_in}
use Rattle.table.proofs.layout.task_in.Given as goal

abbrev pub invariant-loop-k : goal.invariant-loop-k
invariant-loop-k l = record {
  within : l.k - 1 ≤ length l.shares - 1;
  last : l.owner ≡ last_in l.shares l.p (l.k - 1);
  sum : l.first ≡ first_in l.shares l.k;
  most : l.first ≤ l.k * 4294967295;
}
