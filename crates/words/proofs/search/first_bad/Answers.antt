-- `words::search::first_bad` meets its contract: the answer is the smallest place at which the test fails. Assumes nothing.
use mathlib.Core.Path.{sym, ◌∙◌}
use Rattle.words.proofs.FirstLaws.{start, next, stop, done}
use Rattle.words.proofs.search.first_bad.Goals as goal

pub loop-k-init : goal.loop-k-init
loop-k-init g c = λ f e. start

pub returns-then-not-holds : goal.returns-then-not-holds
returns-then-not-holds g c = λ f e. stop (c.loop-k.invariant f e) c.loop-k-test.true (sym (e _ _ c.loop-k-test.true c.holds.ensures) ∙ c.if-not-holds.true)

pub loop-k-preserved : goal.loop-k-preserved
loop-k-preserved g c = λ f e. next (c.loop-k.invariant f e) c.loop-k-test.true (sym (e _ _ c.loop-k-test.true c.holds.ensures) ∙ c.if-not-holds.false)

pub returns : goal.returns
returns g c = λ f e. done (c.loop-k.invariant f e) c.loop-k-test.false
