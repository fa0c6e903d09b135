-- `rules::held::with` meets its contract: the test decides whether a bit is added. Assumes nothing.
use native.Mathlib.Nat.{le_of_lt}
use native.Mathlib.Omega.{arith}
use lib.Pow.{pow-lt}
use Rattle.words.proofs.Bools.{holds, fails}
use Rattle.rules.proofs.HeldLaws.{shl_is}
use Rattle.rules.proofs.held.with.Goals as goal

pub overflow_add-result : goal.overflow_add-result
overflow_add-result c =
    let pre = c.requires in
    rw (shl_is _ (le_of_lt pre.0)) (omega (arith, pre.1, pow-lt pre.0))

pub returns-then-has : goal.returns-then-has
returns-then-has c =
    rw (holds c.has.ensures c.if-has.true)

pub returns-else-has : goal.returns-else-has
returns-else-has c =
    rw (fails c.has.ensures c.if-has.false, shl_is _ (le_of_lt c.requires.0))
