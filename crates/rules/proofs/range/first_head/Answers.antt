-- `rules::range::first_head` meets its contract: each word before a head passes refusal 9, and the loop is left at the first of its three words that
-- does not, or past the last head. Assumes nothing.
use native.Mathlib.Nat.{add-zero}
use native.Mathlib.Omega.{arith}
use Rattle.words.proofs.PlaceLaws.{seek, unfound}
use Rattle.rules.specs.Proposal.{lows_from}
use Rattle.rules.proofs.RangeLaws.{task-fails, past-task, set_fails, past-set, variable-fails, past-variable}
use Rattle.rules.proofs.range.first_head.Goals as goal

pub loop-k-init : goal.loop-k-init
unfolding lows_from
loop-k-init c = rw (c.heads_from-from.ensures.value, add-zero) seek

pub returns-then-sizes-number_in : goal.returns-then-sizes-number_in
returns-then-sizes-number_in c =
    task-fails c.args.p.now c.heads_from-from.ensures.value c.loop-k-test.true c.loop-k.invariant c.number_in.ensures c.if-sizes-number_in.true

pub returns-then-sets-number_in : goal.returns-then-sets-number_in
returns-then-sets-number_in c =
    let here = c.heads_from-from.ensures.value in
    let task = past-task c.args.p.now here c.loop-k-test.true c.loop-k.invariant c.number_in.ensures c.if-sizes-number_in.false in
    set_fails c.args.p.now here c.loop-k-test.true c.set_count-sets.ensures task c.number_in-in-loop-k.ensures c.if-sets-number_in.true

pub returns-then-sizes-number_in-2 : goal.returns-then-sizes-number_in-2
returns-then-sizes-number_in-2 c =
    let here = c.heads_from-from.ensures.value in
    let task = past-task c.args.p.now here c.loop-k-test.true c.loop-k.invariant c.number_in.ensures c.if-sizes-number_in.false in
    let set = past-set c.args.p.now here c.loop-k-test.true c.set_count-sets.ensures task c.number_in-in-loop-k.ensures c.if-sets-number_in.false in
    variable-fails c.args.p.now here c.loop-k-test.true set c.number_in-in-loop-k-2.ensures c.if-sizes-number_in-2.true

pub loop-k-preserved : goal.loop-k-preserved
loop-k-preserved c =
    let here = c.heads_from-from.ensures.value in
    let task = past-task c.args.p.now here c.loop-k-test.true c.loop-k.invariant c.number_in.ensures c.if-sizes-number_in.false in
    let set = past-set c.args.p.now here c.loop-k-test.true c.set_count-sets.ensures task c.number_in-in-loop-k.ensures c.if-sets-number_in.false in
    past-variable c.args.p.now here c.loop-k-test.true set c.number_in-in-loop-k-2.ensures c.if-sizes-number_in-2.false

pub returns : goal.returns
unfolding lows_from
returns c = unfound c.loop-k.invariant (omega (arith, c.heads_from-from.ensures.value, c.args.p.now.parts.entries))
