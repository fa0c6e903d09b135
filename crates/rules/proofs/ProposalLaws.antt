-- How large the parts of a proposal are, where the sizes are within their limits; and what a table and a proposal that were read tell of their sizes.
-- Assumes nothing.
use Prim.Native.Nat.{◌+◌, ◌*◌, ◌≤◌}
use mathlib.Core.List.{List}
use native.Mathlib.Nat.{mul-le-mul}
use native.Mathlib.Omega.{arith}
use lib.IntN.{ℤ}
use Rattle.table.specs.Layout.{sizes_of}
use Rattle.table.specs.Passes.{Passes}
use Rattle.table.specs.declared.checked.Table.{Table}
use Rattle.table.proofs.PassLaws.{passes}
use Rattle.rules.specs.Proposal.{rows_of, entries_of, intervals_of}
use Rattle.rules.specs.Ready.{Bounded}

module _ {t w : List ℤ} (b : Bounded t w) where
  -- the intervals of the rows
  pub rows_bound : rows_of t * (sizes_of t).variables ≤ 4224
  rows_bound = mul-le-mul {n₂ = 264} (omega (arith, b.points, b.mutexes)) b.variables

  -- those, and one for each entry
  pub intervals-bound : intervals_of t w ≤ 4736
  unfolding intervals_of
  intervals-bound = omega (arith, rows_bound, b.entries)

-- ---- a table that was read
module _ (t : Table) where
  pub passed_table : Passes t.words.now
  passed_table = passes t.words.now t.checked

  pub few_points : t.sizes.points ≤ 256
  few_points = rw t.cut.sizes passed_table.points.high

  pub few_mutexes : t.sizes.mutexes ≤ 8
  few_mutexes = rw t.cut.sizes passed_table.mutexes.high

  pub few_variables : t.sizes.variables ≤ 16
  few_variables = rw t.cut.sizes passed_table.variables.high

  pub few_tasks : t.sizes.tasks ≤ 8
  few_tasks = rw t.cut.sizes passed_table.tasks.high

  pub few_rows : (t.sizes.points + t.sizes.mutexes) * t.sizes.variables ≤ 4224
  few_rows = mul-le-mul {n₂ = 264} (omega (arith, few_points, few_mutexes)) few_variables
