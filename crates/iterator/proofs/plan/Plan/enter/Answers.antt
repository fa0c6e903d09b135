-- What is known of a point is noted at its index, and an assignment is filed under its head.
-- Assumes nothing.
use borrow.Author.Rules.{rules}
use Rattle.iterator.proofs.BookLaws.{enter_head, enter_other, enter_assign}
use Rattle.iterator.proofs.plan.Plan.enter.Goals as goal

pub code_of-requires : goal.code_of-requires
code_of-requires c =
    enter_head c.args.t.now c.args.marks.now c.args.p c.args.self.now (search rules) c.requires.upto c.requires.p_bound c.held_of-held.ensures
    c.task_of-task.ensures c.in-Assign.ensures

pub returns-in-Assign : goal.returns-in-Assign
returns-in-Assign c =
    enter_assign c.args.t.now c.args.marks.now c.args.p c.args.self.now (search rules) c.requires.upto c.requires.p_bound c.held_of-held.ensures
    c.task_of-task.ensures c.in-Assign.ensures c.code_of.ensures.value c.code_of.ensures.upper_bound c.file.ensures

pub returns-in_default : goal.returns-in_default
returns-in_default c =
    enter_other c.args.t.now c.args.marks.now c.args.p c.args.self.now (search rules) c.requires.upto c.requires.p_bound c.held_of-held.ensures
    c.task_of-task.ensures c.point_at.ensures c.in_default.not-Assign
