use Rattle.interval.specs.Examples.{starred}
use Rattle.interval.proofs.Laws.{proved}
use Rattle.interval.proofs.laws_hold.Goals as goal

pub returns : goal.returns
returns c = record { laws = proved; starred = starred }
