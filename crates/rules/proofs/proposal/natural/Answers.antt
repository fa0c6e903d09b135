-- `rules::proposal::natural` meets its contract: a word whose number isn't that of the negative ones is its number. Assumes nothing.
use Rattle.words.proofs.Signed.{natural_casts, natural-is}
use Rattle.rules.proofs.proposal.natural.Goals as goal

pub overflow_cast-result : goal.overflow_cast-result
overflow_cast-result c =
    natural_casts _ c.ranges.z c.requires

pub returns : goal.returns
returns c =
    natural-is _ c.ranges.z c.requires
