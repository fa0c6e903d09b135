-- `iterator::given::Given::disturb_all` meets its contract: the loop goes over the places that the plan lists, and entries stand nowhere else.
-- Assumes nothing.
use Rattle.std.proofs.Common.{◌≡◌, sym, ◌∙◌, length, take, arith}
use Rattle.proposer.specs.Passes.{disturb}
use Rattle.iterator.specs.Given.{table_of, thresholds_of, held_by, parts_by}
use Rattle.iterator.proofs.VisitLaws.{listed-below, listed-all, disturb-slots}
use Rattle.iterator.proofs.given.Given.disturb_all.Goals as goal

pub disturb-requires-clause-p_bound : goal.disturb-requires-clause-p_bound
disturb-requires-clause-p_bound c = (c.requires.p_bound, listed-below c.loop-q.q-index c.args.self.now.planned c.loop-q-test.true)

pub returns : goal.returns
returns c =
    let g = c.args.self.now in
    let end : c.loop-q.q-index ≡ length (take g.plan.now.count g.plan.now.listed) = omega arith in
    listed-all (disturb (table_of g) (thresholds_of g) (held_by g) c.args.p) (parts_by g c.args.rows.now c.args.entries.now) g.planned c.loop-q.invariant end
    ∙ sym (disturb-slots (table_of g) (thresholds_of g) (held_by g) c.args.p _ c.requires.ready)
