-- `iterator::given::Given::leave` meets its contract: what stands at the point picks the function that leaves it, and what it names is in range.
-- Assumes nothing.
use Rattle.table.specs.Passes.{FormedPoint}
use Rattle.iterator.proofs.GoLaws.{formed, stands}
use Rattle.iterator.proofs.LeaveLaws.{end-left, leave-none, leave-some}
use Rattle.iterator.proofs.given.Given.leave.Goals as goal

pub assign-requires : goal.assign-requires
unfolding FormedPoint
assign-requires c =
    let g = c.args.self.now in
    let names = formed g.table.now c.requires c.in-Assign.ensures in
    record {
      stands = stands g.table.now c.requires c.in-Assign.ensures;
      bounds = (c.requires, names.0, names.2.point);
      clear = rw g.small.variables-are at c.in-Some.ensures.clear;
    }

pub test-requires : goal.test-requires
unfolding FormedPoint
test-requires c =
    let g = c.args.self.now in
    let names = formed g.table.now c.requires c.in-Test.ensures in
    record { bounds = (names.1.point, names.2.point); clear = rw g.small.variables-are at c.in-Some.ensures.clear }

pub lock-requires : goal.lock-requires
unfolding FormedPoint
lock-requires c =
    let table = c.args.self.now.table.now in
    let names = formed table c.requires c.in-Lock.ensures in
    record { stands = stands table c.requires c.in-Lock.ensures; bounds = (c.requires, names.0, names.1.point) }

pub unlock-requires : goal.unlock-requires
unfolding FormedPoint
unlock-requires c =
    let table = c.args.self.now.table.now in
    let names = formed table c.requires c.in-Unlock.ensures in
    record { stands = stands table c.requires c.in-Unlock.ensures; bounds = (c.requires, names.0, names.1.point) }

pub returns-in_default : goal.returns-in_default
returns-in_default c = leave-none _ _ _ _ _ _ c.args.self.now.small.variables-are c.requires (rw c.in_default.is at c.row.ensures.value)

pub returns-in-End : goal.returns-in-End
returns-in-End c =
    let g = c.args.self.now in
    leave-some _ _ _ _ _ _ g.small.variables-are c.requires _ c.in-Some.ensures.value
    (end-left _ _ _ _ _ _ (stands g.table.now c.requires c.in-End.ensures))

pub returns-in-Assign : goal.returns-in-Assign
returns-in-Assign c = leave-some _ _ _ _ _ _ c.args.self.now.small.variables-are c.requires _ c.in-Some.ensures.value c.assign.ensures

pub returns-in-Test : goal.returns-in-Test
returns-in-Test c =
    let g = c.args.self.now in
    leave-some _ _ _ _ _ _ g.small.variables-are c.requires _ c.in-Some.ensures.value
    (c.test.ensures c.args.p (stands g.table.now c.requires c.in-Test.ensures))

pub returns-in-Lock : goal.returns-in-Lock
returns-in-Lock c = leave-some _ _ _ _ _ _ c.args.self.now.small.variables-are c.requires _ c.in-Some.ensures.value c.lock.ensures

pub returns-in-Unlock : goal.returns-in-Unlock
returns-in-Unlock c = leave-some _ _ _ _ _ _ c.args.self.now.small.variables-are c.requires _ c.in-Some.ensures.value c.unlock.ensures
