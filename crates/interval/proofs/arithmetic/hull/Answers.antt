-- `hull` gives the least and the greatest of its four numbers. Assumes nothing.
use Rattle.std.proofs.Common.{arith}
use Rattle.std.proofs.lemmas.Int.{to_z-of_z}
use Rattle.interval.specs.Integer.{min4_z, max4_z}
use Rattle.interval.specs.Arithmetic.{hull_of}
use Rattle.interval.proofs.arithmetic.hull.Goals as goal

pub returns : goal.returns
unfolding hull_of min4_z max4_z
returns c = grind (arith, to_z-of_z)
