-- `words::search::all_below` meets its contract: the test failed at a place, or held at each. Assumes nothing.
use mathlib.Core.Path.{sym, ◌∙◌}
use Rattle.words.proofs.FirstLaws.{check, checks, checked, fails-at}
use Rattle.words.proofs.search.all_below.Goals as goal

pub loop-i-init : goal.loop-i-init
loop-i-init g c = λ f e. check

pub returns-then-not-holds : goal.returns-then-not-holds
returns-then-not-holds g c = λ f e. sym (fails-at f _ _ c.loop-i-test.true (sym (e _ _ c.loop-i-test.true c.holds.ensures) ∙ c.if-not-holds.true))

pub loop-i-preserved : goal.loop-i-preserved
loop-i-preserved g c = λ f e. checks (c.loop-i.invariant f e) c.loop-i-test.true (sym (e _ _ c.loop-i-test.true c.holds.ensures) ∙ c.if-not-holds.false)

pub returns : goal.returns
returns g c = λ f e. sym (checked (c.loop-i.invariant f e) c.loop-i-test.false)
