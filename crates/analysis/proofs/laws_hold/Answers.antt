-- `analysis::laws_hold` meets its contract: the laws are proved. Assumes nothing.
use Rattle.analysis.specs.Examples.{starred}
use Rattle.analysis.proofs.Laws.{proved}
use Rattle.analysis.proofs.laws_hold.Goals as goal

pub returns : goal.returns
returns c = record { laws = proved; starred = starred }
