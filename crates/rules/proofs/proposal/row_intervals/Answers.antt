-- `rules::proposal::row_intervals` meets its contract: the sizes of a table that was read are within their limits. Assumes nothing.
use native.Mathlib.Nat.{mul-le-mul}
use native.Mathlib.Omega.{arith}
use Rattle.rules.proofs.ProposalLaws.{few_points, few_mutexes, few_variables, few_rows}
use Rattle.rules.proofs.proposal.row_intervals.Goals as goal

pub overflow_add-result : goal.overflow_add-result
overflow_add-result c = omega (arith, few_points, few_mutexes)

pub overflow_mul-result : goal.overflow_mul-result
overflow_mul-result c = omega (arith, few_rows c.args.table.now)

pub returns-clause-upper_bound : goal.returns-clause-upper_bound
returns-clause-upper_bound c = few_rows c.args.table.now
