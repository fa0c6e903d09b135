-- `iterator::given::Given::visits` meets its contract: a visit files entries only where they can stand. Assumes nothing.
use Rattle.std.proofs.Common.{sym, ap, subst, ◌∙◌}
use Rattle.proposer.specs.Passes.{State, visit}
use Rattle.iterator.specs.Plan.{Filed}
use Rattle.iterator.specs.Given.{table_of, thresholds_of, held_by, state_by}
use Rattle.iterator.proofs.FoldLaws.{fold_more}
use Rattle.iterator.proofs.FiledLaws.{visit-filed}
use Rattle.iterator.proofs.given.Given.visits.Goals as goal

pub loop-p-preserved : goal.loop-p-preserved
loop-p-preserved c =
    let g = c.args.self.now in
    let t = table_of g in
    let ts = thresholds_of g in
    let h = held_by g in
    let p = c.loop-p.p in (
      c.visit.ensures ∙ ap (λ (s : State). visit t ts h s p) c.loop-p.invariant.0 ∙ sym (fold_more (visit t ts h) (state_by g c.args.state.now) p),
      subst (λ (s : State). Filed t h s.entries) (sym c.visit.ensures) (visit-filed t ts h (state_by g c.loop-p.state) p c.loop-p.invariant.1),
    )
