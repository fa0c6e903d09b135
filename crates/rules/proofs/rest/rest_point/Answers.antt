-- `rules::rest::rest_point` meets its contract: the mutex of an unlock is one of the table's. Assumes nothing.
use Rattle.rules.proofs.RestLaws.{unlock_names}
use Rattle.rules.proofs.rest.rest_point.Goals as goal

pub unlock_rests-requires : goal.unlock_rests-requires
unlock_rests-requires c = (unlock_names c.args.all.now _ c.requires c.point_at.ensures c.in-Unlock.is, c.requires)
