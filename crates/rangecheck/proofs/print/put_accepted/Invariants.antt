-- `print::put_accepted` meets its contract: the lines so far stand behind the first, and each is short. Assumes nothing.
use Rattle.std.proofs.Common.{◌≡◌, ◌++◌, ◌+◌, ◌*◌, ◌≤◌, length}
use Rattle.rangecheck.specs.Print.{lines_of}
use Rattle.rangecheck.proofs.print.put_accepted.Given as goal

abbrev pub invariant-loop-k : goal.invariant-loop-k
invariant-loop-k l = record {
  text : l.text ≡ l.initial.text ++ lines_of l.alarms l.k;
  few : length l.text ≤ 30 + 35 * l.k;
}
