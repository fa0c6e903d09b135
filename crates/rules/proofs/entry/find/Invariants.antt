-- `rules::entry::find` meets its contract: heads before low are before (u, s, v), those from high on are not, and low meets high. Assumes nothing.
use Prim.Native.Nat.{◌-◌}
use Rattle.rules.specs.Proposal.{entries_of}
use Rattle.rules.specs.Rules.{before_of}
use Rattle.rules.proofs.HalvingLaws.{Halved}
use Rattle.rules.proofs.entry.find.Given as goal

abbrev pub invariant-loop-low : goal.invariant-loop-low
invariant-loop-low l =
    let p = l.all.proposal in
    Halved (λ i. before_of p.table.words.now p.words.now i l.u l.s l.v) (entries_of p.words.now) l.low l.high

abbrev pub decreases-loop-low : goal.decreases-loop-low
decreases-loop-low l = l.high - l.low
