-- `rules::rest::rests_at` meets its contract: both ends in the rest row are read where they lie. Assumes nothing.
use Rattle.rules.proofs.RestLaws.{rest_low_there, rest_high_there}
use Rattle.rules.proofs.rest.rests_at.Goals as goal

pub word_at-requires : goal.word_at-requires
word_at-requires c = rest_low_there c.args.all.now _ _ c.requires.0 c.requires.1

pub word_at-requires-2 : goal.word_at-requires-2
word_at-requires-2 c = rest_high_there c.args.all.now _ _ c.requires.0 c.requires.1
