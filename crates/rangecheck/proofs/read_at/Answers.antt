-- `read_at` meets its contract: only the part is lent to the read. Assumes nothing.
use mathlib.Core.Path.{◌∙◌}
use borrow.Rule.Slice.PartMut.{mid_len, drop_put}
use Rattle.rangecheck.proofs.read_at.Goals as goal

pub returns-clause-behind_stays : goal.returns-clause-behind_stays
returns-clause-behind_stays c =
    let s = c.args in
    let same = c.read_full.auto.buf ∙ mid_len s.from s.to s.room.now c.requires.1 in
    drop_put s.from s.to s.room.now c.read_full.new.buf c.requires.0 c.requires.1 same
