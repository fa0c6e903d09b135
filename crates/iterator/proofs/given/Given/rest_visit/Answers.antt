-- `iterator::given::Given::rest_visit` meets its contract: the loop goes over the places that the plan lists, and entries stand nowhere else.
-- Assumes nothing.
use Rattle.std.proofs.Common.{◌≡◌, sym, ◌∙◌, length, take, arith}
use Rattle.proposer.specs.Passes.{unguarded}
use Rattle.iterator.specs.Given.{table_of, thresholds_of, held_by, parts_by}
use Rattle.iterator.proofs.VisitLaws.{listed-below, listed-all, rest-slots}
use Rattle.iterator.proofs.given.Given.rest_visit.Goals as goal

pub unguarded-requires-clause-m_bound : goal.unguarded-requires-clause-m_bound
unguarded-requires-clause-m_bound c = (c.requires.m_bound, listed-below c.loop-q.q-index c.args.self.now.planned c.loop-q-test.true)

pub returns : goal.returns
returns c =
    let g = c.args.self.now in
    let end : c.loop-q.q-index ≡ length (take g.plan.now.count g.plan.now.listed) = omega arith in
    listed-all (unguarded (table_of g) (thresholds_of g) (held_by g) c.args.m) (parts_by g c.args.rows.now c.args.entries.now) g.planned c.loop-q.invariant end
    ∙ sym (rest-slots (table_of g) (thresholds_of g) (held_by g) c.args.m _ c.requires.ready)
