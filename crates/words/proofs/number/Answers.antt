-- `words::number` meets its contract: what the test of the sign says of the word. Assumes nothing.
use native.Mathlib.Omega.{arith}
use Rattle.words.proofs.Signed.{number-below, number-not-below, number-casts, number_bound}
use Rattle.words.proofs.number.Goals as goal

pub overflow_cast-result : goal.overflow_cast-result
overflow_cast-result c = number-casts _ c.ranges.z c.if-z-lt0.false

pub returns-then-z-lt0 : goal.returns-then-z-lt0
returns-then-z-lt0 c = record { value = number-below _ c.ranges.z c.if-z-lt0.true; upper_bound = omega arith }

pub returns-else-z-lt0 : goal.returns-else-z-lt0
returns-else-z-lt0 c =
    let is = number-not-below _ c.ranges.z c.if-z-lt0.false in
    record { value = is; upper_bound = rw is (number_bound _ c.ranges.z) }
