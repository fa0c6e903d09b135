-- What a table that passed says of its sizes: they are within their limits.
-- Assumes nothing.
use Rattle.std.proofs.Common.{◌≡◌, ℕ, ◌+◌, ◌*◌, ◌<◌, ◌≤◌, List, ℤ, refl, arith}
use Rattle.std.proofs.Math.Nat.{mul-le-mul}
use Rattle.words.specs.Stages.{passed}
use Rattle.table.specs.Layout.{sizes_of, first_of}
use Rattle.table.specs.declared.checked.Table.{Table}
use Rattle.table.specs.Validate.{validate_of}
use Rattle.table.proofs.PassLaws.{passes}
use Rattle.proposer.proofs.WalkLaws.{first-point}
use Rattle.iterator.specs.Plan.{Small}

module _ (t : List ℤ) (e : validate_of t ≡ passed) where
  pub tasks_few : (sizes_of t).tasks ≤ 8
  tasks_few = (passes t e).tasks.high

  pub variables_few : (sizes_of t).variables ≤ 16
  variables_few = (passes t e).variables.high

  pub mutexes_few : (sizes_of t).mutexes ≤ 8
  mutexes_few = (passes t e).mutexes.high

  pub points_few : (sizes_of t).points ≤ 256
  points_few = (passes t e).points.high

  pub first_point : (u : ℕ) → u < (sizes_of t).tasks → first_of t u < (sizes_of t).points
  first_point u l = first-point t (passes t e) u l

pub small : (t : Table) → Small t.words.now t.sizes
small t = rw t.cut.sizes (record {
  tasks-are = refl;
  variables-are = refl;
  mutexes-are = refl;
  points-are = refl;
  tasks = tasks_few t.words.now t.checked;
  variables = variables_few t.words.now t.checked;
  mutexes = mutexes_few t.words.now t.checked;
  points = points_few t.words.now t.checked;
})

-- so many rows
pub places_few : (t : Table) → t.sizes.points + t.sizes.mutexes ≤ 264
places_few t = rw t.cut.sizes (omega (arith, points_few t.words.now t.checked, mutexes_few t.words.now t.checked))

pub ruleset sizes = (tasks_few, variables_few, mutexes_few, points_few)

-- so many rows have few intervals
pub intervals_few : (k n : ℕ) → k ≤ 264 → n ≤ 16 → k * n ≤ 4224
intervals_few k n h l = mul-le-mul h l

-- and their ends can move a few times
pub moves_few : (l n : ℕ) → l ≤ 32 → n ≤ 4480 → 2 * (l + 1) * n ≤ 295680
moves_few l n h k = mul-le-mul {n₁ = 2 * (l + 1)} {n₂ = 66} (omega arith) k
