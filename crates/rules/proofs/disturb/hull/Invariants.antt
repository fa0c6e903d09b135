-- `rules::disturb::hull` meets its contract: after each turn the row is around one more entry. Assumes nothing.
use Rattle.rules.specs.Ready.{Around}
use Rattle.rules.proofs.disturb.hull.Given as goal

abbrev pub invariant-loop-i : goal.invariant-loop-i
invariant-loop-i l = let p = l.all.proposal in Around p.table.words.now p.words.now l.u l.row l.i
