-- `analysis::Row::widen_cut` meets its contract: both rows are joined, and the ends that were widened before are put in their places.
-- Assumes nothing.
use native.Mathlib.Omega.{arith}
use Rattle.analysis.proofs.JoinLaws.{widened_is}
use Rattle.analysis.proofs.Row.widen_cut.Goals as goal

pub returns : goal.returns
returns c =
    let row = c.args.self.now in
    let more = c.args.more.now in
    widened_is row more (omega arith) (omega arith) _ _ _ _ _ _ _ _ _ c.widened_at-first.ensures c.widened_at-second.ensures c.widen.ensures c.set.ensures c.set-2.ensures
