-- `words::search::first_bad_in` meets its contract: the answer is the smallest of the places at which the test fails. Assumes nothing.
use mathlib.Core.Path.{sym, ◌∙◌}
use Rattle.words.proofs.PlaceLaws.{seek, seeks, sought, unfound}
use Rattle.words.proofs.search.first_bad_in.Goals as goal

pub loop-k-init : goal.loop-k-init
loop-k-init g c = λ f e. seek

pub returns-then-not-holds : goal.returns-then-not-holds
returns-then-not-holds g c = λ f e.
    let s = c.loop-k.invariant f e in
    sought s c.loop-k-test.true (sym (e _ _ s.past c.loop-k-test.true c.holds.ensures) ∙ c.if-not-holds.true)

pub loop-k-preserved : goal.loop-k-preserved
loop-k-preserved g c = λ f e.
    let s = c.loop-k.invariant f e in
    seeks s c.loop-k-test.true (sym (e _ _ s.past c.loop-k-test.true c.holds.ensures) ∙ c.if-not-holds.false)

pub returns : goal.returns
returns g c = λ f e. unfound (c.loop-k.invariant f e) c.loop-k-test.false
