-- `rules::disturb::widen_by` meets its contract: an entry of another task widens the interval of its variable. Assumes nothing.
use Rattle.rules.proofs.DisturbLaws.{around-next}
use Rattle.rules.proofs.disturb.widen_by.Goals as goal

pub returns : goal.returns
returns c =
    let row = c.widen_to.ensures in
    let x = c.span.ensures in
    rw row.value (around-next c.args.row.now row.there.0 row.there.1 c.variable.ensures.value x.low x.high c.requires.around)
