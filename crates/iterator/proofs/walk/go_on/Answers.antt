-- `iterator::walk::go_on` meets its contract: what stands at the point names points and a mutex of the table. Assumes nothing.
use Rattle.std.proofs.Common.{rules, arith}
use Rattle.table.specs.Passes.{FormedPoint}
use Rattle.iterator.proofs.SetLaws.{sets_few}
use Rattle.iterator.proofs.GoLaws.{formed, added, taken}
use Rattle.iterator.proofs.walk.go_on.Goals as goal

pub mark_at-requires : goal.mark_at-requires
unfolding FormedPoint
mark_at-requires c = let pre = c.requires.p_bound in ((formed c.args.t.now pre.0 c.in-Assign.ensures).2.point, pre.1)

pub mark_at-requires-in-Test : goal.mark_at-requires-in-Test
unfolding FormedPoint
mark_at-requires-in-Test c = let pre = c.requires.p_bound in ((formed c.args.t.now pre.0 c.in-Test.ensures).1.point, pre.1)

pub mark_at-requires-in-Test-2 : goal.mark_at-requires-in-Test-2
unfolding FormedPoint
mark_at-requires-in-Test-2 c = let pre = c.requires.p_bound in ((formed c.args.t.now pre.0 c.in-Test.ensures).2.point, pre.1)

pub overflow_add-s : goal.overflow_add-s
unfolding FormedPoint
overflow_add-s c =
    let t = c.args.t.now in
    let pre = c.requires.p_bound in
    let names = formed t pre.0 c.in-Lock.ensures in
    omega (arith, added t.words.now c.args.s c.in-Lock.m pre.1 names.0 (search rules), c.alone.ensures, sets_few t.words.now t.checked)

pub mark_at-requires-then-not-has : goal.mark_at-requires-then-not-has
unfolding FormedPoint
mark_at-requires-then-not-has c =
    let t = c.args.t.now in
    let pre = c.requires.p_bound in
    let names = formed t pre.0 c.in-Lock.ensures in
    (names.1.point, rw c.alone.ensures (added t.words.now c.args.s c.in-Lock.m pre.1 names.0 (search rules)))

pub mark_at-requires-then-has : goal.mark_at-requires-then-has
unfolding FormedPoint
mark_at-requires-then-has c =
    let t = c.args.t.now in
    let pre = c.requires.p_bound in
    let names = formed t pre.0 c.in-Unlock.ensures in
    (names.1.point, rw c.alone-then-has.ensures (taken t.words.now c.args.s c.in-Unlock.m pre.1 names.0 (search rules)))
