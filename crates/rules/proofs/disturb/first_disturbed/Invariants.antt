-- `rules::disturb::first_disturbed` meets its contract: each point before p passes refusal 15, as does one whose row holds the hull of the other tasks'
-- entries; each entry before i leaves p alone; and both loops are left by the label at the first pair that fails. Assumes nothing.
use mathlib.Core.Path.{◌≡◌}
use Rattle.std.specs.Prelude.{None}
use Rattle.words.proofs.FirstLaws.{Checked}
use Rattle.words.proofs.PlaceLaws.{Sought}
use Rattle.analysis.specs.Rows.{seen}
use Rattle.rules.specs.Proposal.{entries_of}
use Rattle.rules.specs.Rules.{rule15}
use Rattle.rules.specs.Ready.{Around}
use Rattle.rules.proofs.DisturbLaws.{leaves}
use Rattle.rules.proofs.disturb.first_disturbed.Given as goal

abbrev pub invariant-loop-i : goal.invariant-loop-i
invariant-loop-i l =
    let p = l.all.proposal in
    (l.found ≡ None) × Checked (leaves p.table.words.now p.words.now l.u l.s (seen l.row)) (entries_of p.words.now) l.i

abbrev pub invariant-pairs : goal.invariant-pairs
invariant-pairs l =
    let t = l.all.proposal.table.words.now in
    let w = l.all.proposal.words.now in
    (l.found ≡ None) × Sought (rule15 t w) l.initial.p l.p-end l.p × Around t w l.u l.around (entries_of w)
