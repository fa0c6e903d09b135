-- `rules::disturb::first_disturbed` meets its contract: each point before p passes refusal 15, as does one whose row holds the hull of the other tasks'
-- entries; each entry before i leaves p alone; and both loops are left by the label at the first pair that fails. Assumes nothing.
use mathlib.Core.Path.{refl, ◌∙◌}
use mathlib.Core.Bool.{not}
use borrow.Author.Tests.{not-true, not-false}
use native.Mathlib.Omega.{arith}
use Rattle.words.proofs.Bools.{holds, fails}
use Rattle.words.proofs.FirstLaws.{check, checks, checked, fails-at}
use Rattle.words.proofs.PlaceLaws.{seek, seeks, sought, unfound}
use Rattle.rules.proofs.DisturbLaws.{leaves, not-reached, reached, hull-held}
use Rattle.rules.proofs.disturb.first_disturbed.Goals as goal

pub pairs-init : goal.pairs-init
pairs-init c = (refl, seek, c.hull-around.ensures)

pub pairs-preserved-then-not-is_reached : goal.pairs-preserved-then-not-is_reached
pairs-preserved-then-not-is_reached c =
    let inv = c.pairs.invariant in
    let reach = rw c.held-s.ensures.value at c.is_reached.ensures in
    (inv.0, seeks inv.1 c.pairs-test.true (not-reached _ _ _ (fails reach c.if-not-is_reached.true)), inv.2)

pub pairs-preserved-then-holds_hull : goal.pairs-preserved-then-holds_hull
pairs-preserved-then-holds_hull c =
    let inv = c.pairs.invariant in
    let row = c.row-row.ensures in
    let held = holds c.holds_hull.ensures c.if-holds_hull.true in
    let passed = hull-held c.args.all.now c.row-row.result row.whole c.hull_for.ensures held _ c.task_of-u-in-pairs.ensures row.value in
    (inv.0, seeks inv.1 c.pairs-test.true passed, c.hull_for.ensures)

pub loop-i-init : goal.loop-i-init
loop-i-init c = (c.pairs.invariant.0, check)

pub loop-i-preserved : goal.loop-i-preserved
loop-i-preserved c =
    let inv = c.loop-i.invariant in
    let alone = not-false _ (fails {b = not (leaves _ _ _ _ _ _)} c.is_disturbed.ensures c.if-is_disturbed.false) in
    (inv.0, checks inv.1 (omega (arith, c.args.all.now.proposal.parts.entries)) alone)

pub pairs-preserved : goal.pairs-preserved
pairs-preserved c =
    let reach = rw c.held-s.ensures.value at c.is_reached.ensures in
    let all = checked c.loop-i.invariant.1 (omega (arith, c.args.all.now.proposal.parts.entries)) in
    let passed = reached _ _ _ (holds reach c.if-not-is_reached.false) c.task_of-u-in-pairs.ensures c.held-s.ensures.value c.row-row.ensures.value all in
    (c.loop-i.invariant.0, seeks c.pairs.invariant.1 c.pairs-test.true passed, c.hull_for.ensures)

pub returns-then-is_disturbed : goal.returns-then-is_disturbed
returns-then-is_disturbed c =
    let reach = rw c.held-s.ensures.value at c.is_reached.ensures in
    let disturbed = not-true _ (holds {b = not (leaves _ _ _ _ _ _)} c.is_disturbed.ensures c.if-is_disturbed.true) in
    let one = fails-at _ _ _ (omega (arith, c.args.all.now.proposal.parts.entries)) disturbed in
    sought c.pairs.invariant.1 c.pairs-test.true
    (reached _ _ _ (holds reach c.if-not-is_reached.false) c.task_of-u-in-pairs.ensures c.held-s.ensures.value c.row-row.ensures.value one)

pub returns-after-pairs : goal.returns-after-pairs
returns-after-pairs c = c.pairs.invariant.0 ∙ unfound c.pairs.invariant.1 c.pairs-test.false
