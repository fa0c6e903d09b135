-- `iterator::given::Given::passes` meets its contract: the loop ends where `made_from` does. Assumes nothing.
use Rattle.std.proofs.Common.{◌≡◌, arith}
use Rattle.iterator.specs.Arrays.{places_by}
use Rattle.iterator.proofs.PassesLaws.{making, makes, made-last, made_all}
use Rattle.iterator.proofs.given.Given.passes.Goals as goal

pub loop-made-init : goal.loop-made-init
loop-made-init c = (making, c.requires.ready)

pub returns-then-not-state-clause-result_after : goal.returns-then-not-state-clause-result_after
unfolding places_by
returns-then-not-state-clause-result_after c = made-last c.loop-made.invariant.0 (omega arith) c.pass.ensures.state_after c.if-not-state.true

pub loop-made-preserved : goal.loop-made-preserved
unfolding places_by
loop-made-preserved c = (
  makes c.loop-made.invariant.0 (omega arith) c.pass.ensures.state_after c.if-not-state.false,
  c.pass.ensures.ready,
)

pub returns : goal.returns
returns c =
    let end : c.loop-made.made ≡ c.pass_bound-bound.result = omega arith in
    record { result_after = rw (← end) (made_all c.loop-made.invariant.0 (omega arith)); ready_after = c.loop-made.invariant.1 }
