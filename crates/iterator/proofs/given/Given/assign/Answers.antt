-- `iterator::given::Given::assign` meets its contract: the entry takes in what is written, and so does the row that is handed on. Assumes nothing.
use Rattle.std.proofs.Common.{◌∙◌, arith}
use Rattle.table.specs.Layout.{sizes_of}
use Rattle.proposer.specs.Widen.{trimmed_of}
use Rattle.proposer.specs.Passes.{file_in}
use Rattle.proposer.proofs.SlotLaws.{slot-below}
use Rattle.iterator.specs.Given.{table_of, thresholds_of, held_by, state_by}
use Rattle.iterator.proofs.LeaveLaws.{assign-none, assign-some, written-clear, slot-is}
use Rattle.iterator.proofs.given.Given.assign.Goals as goal

pub returns-in_default : goal.returns-in_default
returns-in_default c =
    assign-none _ _ _ _ _ _ c.requires.stands (written-clear c.args.self.now.table.now _ c.args.e c.requires.clear c.value.ensures.value ∙ c.in_default.is)

pub take-requires : goal.take-requires
take-requires c =
    let g = c.args.self.now in
    omega (arith, slot-below _ _ _ _ (slot-is c.args.p g.planned c.requires.bounds.0 c.requires.stands), g.small.points-are)

pub returns : goal.returns
unfolding file_in
returns c =
    let g = c.args.self.now in
    let slot = slot-is c.args.p g.planned c.requires.bounds.0 c.requires.stands in
    let written = written-clear g.table.now _ c.args.e c.requires.clear c.value.ensures.value ∙ c.in-Some.is in
    rw (c.take-2.ensures, c.put.ensures _ c.requires.bounds.1, c.take.ensures _ (slot-below _ _ _ _ slot))
    (rw slot at (assign-some (table_of g) (thresholds_of g) (held_by g) (state_by g c.args.state.now) c.args.p
    (trimmed_of (sizes_of (table_of g)).variables c.args.row.now) c.requires.stands written))
