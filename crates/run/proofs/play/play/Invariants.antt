-- `run::play::play` meets its contract: the state and the position stand after some steps of the schedule, and each step uses a word.
-- Assumes nothing.
use Prim.Native.Nat.{◌-◌}
use lib.ListN.{length}
use Rattle.run.proofs.RunLaws.{Reached}
use Rattle.run.proofs.play.play.Given as goal

abbrev pub invariant-loop-at : goal.invariant-loop-at
invariant-loop-at l = Reached l.fn.table.words.now l.schedule l.state l.at

abbrev pub decreases-loop-at : goal.decreases-loop-at
decreases-loop-at l = length l.schedule - l.at
