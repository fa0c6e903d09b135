-- `rules::held::disjoint` meets its contract: the mask is clear where no mutex is in both. Assumes nothing.
use Rattle.rules.proofs.HeldLaws.{mask_is}
use Rattle.rules.proofs.held.disjoint.Goals as goal

pub returns : goal.returns
returns c =
    mask_is _ _
