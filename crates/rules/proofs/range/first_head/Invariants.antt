-- `rules::range::first_head` meets its contract: each word before a head passes refusal 9, and the loop is left at the first of its three words that
-- does not, or past the last head. Assumes nothing.
use Prim.Native.Nat.{◌+◌, ◌*◌}
use Rattle.rules.proofs.RangeLaws.{At}
use Rattle.rules.proofs.range.first_head.Given as goal

abbrev pub invariant-loop-k : goal.invariant-loop-k
invariant-loop-k l = At l.p (l.from + 3 * l.k)
