-- `iterator::places::Rows::take_at` meets its contract: the two ends that can move are looked at alone. Assumes nothing.
use Rattle.std.proofs.Common.{refl, sym, ◌∙◌}
use Rattle.iterator.proofs.TakeAtLaws.{takes_none, takes-within, takes_past}
use Rattle.iterator.proofs.places.Rows.take_at.Goals as goal

pub returns-in_default : goal.returns-in_default
returns-in_default c n k below place = takes_none n k c.args.self.now c.args.ts.now _ _ c.args.x place c.in_default.is

pub returns-then-holds : goal.returns-then-holds
returns-then-holds c n k below place =
    takes-within n k c.args.self.now c.args.ts.now _ _ c.args.x place c.in-Some.is below (rw c.ends-old.ensures at (sym c.holds.ensures) ∙ c.if-holds.true)

pub returns : goal.returns
returns c n k below place =
    takes_past n k c.args.self.now c.args.ts.now _ _ c.args.x place c.in-Some.is below _ (rw c.ends-old.ensures at (sym c.holds.ensures) ∙ c.if-holds.false)
    (c.put.ensures n below ∙ rw (c.widened.ensures, c.ends-old.ensures) refl)
