-- `iterator::given::Given::unlock` meets its contract: there is an outcome where the mutex is held, and its rest row takes it in too. Assumes nothing.
use Rattle.std.proofs.Common.{sym, ◌∙◌}
use Rattle.iterator.proofs.LeaveLaws.{unlock-free, unlock-held}
use Rattle.iterator.proofs.given.Given.unlock.Goals as goal

pub returns-then-not-has : goal.returns-then-not-has
returns-then-not-has c = unlock-free _ _ _ _ _ _ c.requires.stands (sym c.has.ensures ∙ c.if-not-has.true)

pub returns : goal.returns
returns c =
    rw (c.take-2.ensures, c.take.ensures, c.args.self.now.small.points-are)
    (unlock-held _ _ _ _ _ _ c.requires.stands (sym c.has.ensures ∙ c.if-not-has.false))
