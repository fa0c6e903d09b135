-- `clamp` tests the ends that it cut, as the definition does. Assumes nothing.
use Rattle.std.proofs.Common.{arith}
use Rattle.std.proofs.lemmas.Int.{to_z-of_z}
use Rattle.interval.proofs.arithmetic.clamp.Goals as goal

pub returns-then-low-high : goal.returns-then-low-high
returns-then-low-high c = grind (arith, to_z-of_z)
