-- `iterator::walk::walk` meets its contract: the round that makes no new mark is the last. Assumes nothing.
use Rattle.std.proofs.Common.{◌≡◌, false, ap, ◌∙◌, length, arith}
use Rattle.std.proofs.Math.ListN.{length-replicate}
use Rattle.proposer.specs.Walk.{mark_count}
use Rattle.iterator.proofs.WalkLaws.{last_round}
use Rattle.iterator.proofs.walk.walk.Goals as goal

pub returns-then-not-round : goal.returns-then-not-round
returns-then-not-round c =
    let size : length c.args.marks.now ≡ mark_count c.args.t.now.words.now = ap length c.requires ∙ length-replicate _ false in
    last_round _ (omega arith) c.loop.invariant c.round.ensures c.if-not-round.true
