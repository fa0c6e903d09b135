-- `run::laws_hold` meets its contract: the laws are proved. Assumes nothing.
use Rattle.run.proofs.Laws.{proved}
use Rattle.run.proofs.laws_hold.Goals as goal

pub returns : goal.returns
returns c =
    proved
