-- `table::laws_hold` meets its contract: the laws and the worked examples are proved. Assumes nothing.
use Rattle.table.specs.Examples.{starred}
use Rattle.table.proofs.Laws.{proved}
use Rattle.table.proofs.laws_hold.Goals as goal

pub returns : goal.returns
returns c = record { laws = proved; starred = starred }
