-- The plan begins with nothing of any point, and ends with what is known of each.
-- Assumes nothing.
use Rattle.proposer.specs.Walk.{held_in}
use Rattle.iterator.proofs.BookLaws.{upto_start, upto_held, upto_planned}
use Rattle.iterator.proofs.plan.plan_for.Goals as goal

pub loop-p-init : goal.loop-p-init
loop-p-init c = rw c.requires.blank (upto_start c.args.t.now.words.now (held_in c.args.t.now.words.now c.args.marks.now))

pub returns : goal.returns
returns c =
    let all = c.loop-p in
    record {
      by_index = upto_held c.args.t.now c.args.marks.now c.requires.marks_len _ _ all.invariant all.auto.p-end c.loop-p-test.false;
      planned = upto_planned c.args.t.now c.args.marks.now c.requires.marks_len _ _ all.invariant all.auto.p-end c.loop-p-test.false;
    }
