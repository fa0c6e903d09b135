-- `checker::laws_hold` meets its contract: the laws are proved. Assumes nothing.
use Rattle.checker.specs.Examples.{starred}
use Rattle.checker.proofs.Laws.{proved}
use Rattle.checker.proofs.laws_hold.Goals as goal

pub returns : goal.returns
returns c = record { laws = proved; starred = starred }
