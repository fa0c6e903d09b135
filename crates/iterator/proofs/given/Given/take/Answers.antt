-- `iterator::given::Given::take` meets its contract: of a row only the table's variables count. Assumes nothing.
use Rattle.std.proofs.Common.{◌∙◌}
use Rattle.iterator.proofs.CutLaws.{take_trimmed}
use Rattle.iterator.proofs.given.Given.take.Goals as goal

pub returns : goal.returns
returns c = rw c.args.self.now.small.variables-are at (c.take.ensures _ c.requires) ∙ take_trimmed _ _ _ _ _
