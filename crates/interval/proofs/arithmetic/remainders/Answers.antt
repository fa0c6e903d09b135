-- `remainders` tests whether its divisor is only 0 as the definition does, and gives the two ends for D. Assumes nothing.
use Rattle.std.proofs.Common.{arith}
use Rattle.std.proofs.lemmas.Int.{to_z-of_z}
use Rattle.interval.specs.Integer.{eq_z}
use Rattle.interval.specs.Arithmetic.{remainders_of}
use Rattle.interval.proofs.arithmetic.remainders.Goals as goal

pub returns : goal.returns
unfolding remainders_of eq_z
returns c = grind (arith, to_z-of_z)
