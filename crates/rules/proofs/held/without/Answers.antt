-- `rules::held::without` meets its contract: the test decides whether a bit is taken, and a set that has it is large enough. Assumes nothing.
use native.Mathlib.Nat.{le_of_lt}
use Rattle.words.proofs.Bools.{holds, fails}
use Rattle.rules.proofs.HeldLaws.{shl_is, has-le}
use Rattle.rules.proofs.held.without.Goals as goal

pub overflow_sub-result : goal.overflow_sub-result
overflow_sub-result c =
    rw (shl_is _ (le_of_lt c.requires)) (has-le _ _ (holds c.has.ensures c.if-has.true))

pub returns-then-has : goal.returns-then-has
returns-then-has c =
    rw (holds c.has.ensures c.if-has.true, shl_is _ (le_of_lt c.requires))

pub returns-else-has : goal.returns-else-has
returns-else-has c =
    rw (fails c.has.ensures c.if-has.false)
