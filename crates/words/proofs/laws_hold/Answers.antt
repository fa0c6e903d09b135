-- `words::laws_hold` meets its contract: the laws are proved. Assumes nothing.
use Rattle.words.proofs.Laws.{proved}
use Rattle.words.proofs.laws_hold.Goals as goal

pub returns : goal.returns
returns c = proved
