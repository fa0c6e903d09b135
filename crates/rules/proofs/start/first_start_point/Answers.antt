-- `rules::start::first_start_point` meets its contract: each task before u can start, so every point before its first passes refusal 11, and the
-- loop is left at the first task that can't, or past the last. Assumes nothing.
use Rattle.words.proofs.Bools.{fails, holds}
use Rattle.rules.proofs.StartLaws.{start, starts, stops, started}
use Rattle.rules.proofs.start.first_start_point.Goals as goal

pub loop-u-init : goal.loop-u-init
loop-u-init c = start c.args.p.now

pub returns-then-not-point_starts : goal.returns-then-not-point_starts
returns-then-not-point_starts c = stops c.loop-u.invariant c.loop-u-test.true (fails c.point_starts.ensures c.if-not-point_starts.true)

pub loop-u-preserved : goal.loop-u-preserved
loop-u-preserved c =
    starts c.loop-u.invariant c.loop-u-test.true (holds c.point_starts.ensures c.if-not-point_starts.false) c.number_at-first.ensures.value

pub returns : goal.returns
returns c = started c.loop-u.invariant c.loop-u-test.false
