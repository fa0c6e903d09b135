-- `table::formed::point_ok` meets its contract: an assignment and a test, which name a node and points of the task. The other kinds need no help.
-- Assumes nothing.
use borrow.Author.Rules.{rules}
use Rattle.table.specs.Formed.{point_fields_of, fits_of}
use Rattle.table.specs.Uses.{ref_of}
use Rattle.table.proofs.WalkLaws.{tested, in_turn}
use Rattle.table.proofs.formed.point_ok.Goals as goal

pub returns-in-1 : goal.returns-in-1
unfolding point_fields_of fits_of ref_of
returns-in-1 c = λ t h n p.
    let rest = in_turn c.uses.ensures (tested (c.is_target.ensures t c.args.p h)) in
    search (rules, in_turn, tested)

pub returns-in-2 : goal.returns-in-2
unfolding point_fields_of fits_of ref_of
returns-in-2 c = λ t h n p.
    let yes = c.is_target-in-2.ensures t c.args.p h in
    let no = c.is_target-in-2-2.ensures t c.args.p h in
    search (rules, in_turn c.uses-in-2.ensures (in_turn (tested yes) (tested no)))
