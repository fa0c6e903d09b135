-- `proposer::laws_hold` meets its contract: the laws are proved. Assumes nothing.
use Rattle.proposer.proofs.ShownLaws.{shown}
use Rattle.proposer.proofs.Laws.{proved}
use Rattle.proposer.proofs.laws_hold.Goals as goal

pub returns : goal.returns
returns c = record { laws = proved; shown = shown }
