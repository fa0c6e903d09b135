-- `program::laws_hold` meets its contract. Assumes nothing.
use Rattle.rangecheck.specs.Examples.{examples}
use Rattle.rangecheck.proofs.RestLaws.{laws}
use Rattle.rangecheck.proofs.program.laws_hold.Goals as goal

pub returns-clause-laws : goal.returns-clause-laws
returns-clause-laws c = laws

pub returns-clause-examples : goal.returns-clause-examples
returns-clause-examples c = examples
