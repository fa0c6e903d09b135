-- `checker::list::write` meets its contract: the pairs of the nodes passed stand at the front of the buffer. Assumes nothing.
use mathlib.Core.Path.{◌∙◌}
use native.Mathlib.Omega.{arith}
use Rattle.checker.specs.AlarmList.{marked_at}
use Rattle.checker.proofs.BufferLaws.{pairs_length, pairs_room, front_more}
use Rattle.checker.proofs.list.write.Goals as goal

pub put_node-at-requires-clause-n_in_bounds : goal.put_node-at-requires-clause-n_in_bounds
put_node-at-requires-clause-n_in_bounds c =
    omega (arith, pairs_room (marked_at c.args.marks.now) c.loop-n.n c.args.nodes c.loop-n-test.true)

pub loop-n-preserved : goal.loop-n-preserved
loop-n-preserved c =
    let f = marked_at c.args.marks.now in
    let room = pairs_room f c.loop-n.n c.args.nodes c.loop-n-test.true in
    let v = c.loop-n.invariant in (
      omega (arith, pairs_length f c.loop-n.n),
      c.put_node-at.ensures.out_after ∙ rw (v.0, v.1) (front_more f c.loop-n.n c.args.out.now (omega arith)),
    )
