-- A head is noted where its entry is there. There are no more entries than points.
-- Assumes nothing.
use Prim.Native.Nat.{◌<◌}
use mathlib.Core.Path.{ap}
use native.Mathlib.Omega.{arith}
use lib.ListN.{length, length-set}
use Rattle.iterator.proofs.WriteLaws.{note_room, note_some, note_none, note_start, note_end}
use Rattle.iterator.proofs.given.Given.collect.Goals as goal
use Rattle.iterator.proofs.given.Given.collect.Goals.{then-is_some, else-is_some}

pub loop-c-init : goal.loop-c-init
loop-c-init c = note_start c.args.self.now c.args.state.now _

pub offset_bounds-heads-count : goal.offset_bounds-heads-count
offset_bounds-heads-count c =
    omega (arith, note_room c.args.self.now c.args.state.now _ _ c.entry_under.ensures c.code_count-c-end.ensures.value c.loop-c-test.true c.if-is_some.ensures c.loop-c.invariant)

pub bounds-heads-count : goal.bounds-heads-count
bounds-heads-count c =
    note_room c.args.self.now c.args.state.now _ _ c.entry_under.ensures c.code_count-c-end.ensures.value c.loop-c-test.true c.if-is_some.ensures c.loop-c.invariant

pub loop-c-preserved : goal.loop-c-preserved
loop-c-preserved c = elim c.if-is_some.branch [
  | then-is_some w ↦
      let few = note_room c.args.self.now c.args.state.now _ _ c.entry_under.ensures c.code_count-c-end.ensures.value c.loop-c-test.true w.if-is_some.ensures c.loop-c.invariant in
      let room : c.loop-c.count < length c.loop-c.heads = omega (arith, few, ap length w.heads-is, length-set c.loop-c.heads c.loop-c.count c.loop-c.c) in
      rw (w.heads-is, w.count-is) (note_some c.args.self.now c.args.state.now _ _ c.entry_under.ensures room w.if-is_some.ensures c.loop-c.invariant)
  | else-is_some w ↦
      rw (w.heads-is, w.count-is) (note_none c.args.self.now c.args.state.now _ _ c.entry_under.ensures w.if-is_some.ensures c.loop-c.invariant)
]

pub returns : goal.returns
returns c = note_end c.args.self.now c.args.state.now c.code_count-c-end.ensures.value c.loop-c.auto.c-end c.loop-c-test.false c.loop-c.invariant
