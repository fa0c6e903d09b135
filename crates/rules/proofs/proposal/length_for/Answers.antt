-- `rules::proposal::length_for` meets its contract: the sizes of a table that was read are within their limits. Assumes nothing.
use native.Mathlib.Omega.{arith}
use Rattle.rules.proofs.ProposalLaws.{few_points}
use Rattle.rules.proofs.proposal.length_for.Goals as goal

pub overflow_add-result : goal.overflow_add-result
overflow_add-result c = omega (arith, few_points)

pub overflow_add-result-2 : goal.overflow_add-result-2
overflow_add-result-2 c = omega (arith, few_points)

pub overflow_add-result-4 : goal.overflow_add-result-4
overflow_add-result-4 c = omega (arith, few_points)
