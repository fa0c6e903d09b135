-- `rules::entry::find` meets its contract: heads before low are before (u, s, v), those from high on are not, and low meets high. Assumes nothing.
use native.Mathlib.Omega.{arith}
use Rattle.words.proofs.Bools.{holds, fails}
use Rattle.rules.specs.Rules.{before_of}
use Rattle.rules.proofs.CheckedLaws.{ready_of}
use Rattle.rules.proofs.EntryLaws.{before_falls}
use Rattle.rules.proofs.HalvingLaws.{halve-up, halve-down, halved}
use Rattle.rules.proofs.entry.find.Goals as goal

pub loop-low-preserved-then-before : goal.loop-low-preserved-then-before
loop-low-preserved-then-before c =
    let ready = ready_of c.args.all.now in
    halve-up _ c.loop-low.invariant (before_falls _ _ ready.order _ _ _) (omega arith)
    (holds {b = before_of _ _ _ _ _ _} c.before-in-loop-low.ensures c.if-before.true)

pub loop-low-preserved : goal.loop-low-preserved
loop-low-preserved c =
    let ready = ready_of c.args.all.now in
    halve-down _ c.loop-low.invariant (before_falls _ _ ready.order _ _ _) (omega arith) (omega arith)
    (fails {b = before_of _ _ _ _ _ _} c.before-in-loop-low.ensures c.if-before.false)

pub returns : goal.returns
returns c = halved c.loop-low.invariant c.loop-low-test.false c.args.all.now.proposal.parts.entries c.then_some.ensures
