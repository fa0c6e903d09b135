-- First points rise, and the task that `task_of` gives is the one that owns the point.
-- Assumes nothing.
use Prim.Native.Nat.{ℕ, zero, suc, ◌+◌, ◌-◌, ◌<◌, ◌≤◌, zero-le}
use mathlib.Core.Path.{◌≡◌, refl}
use mathlib.Core.Bool.{true, ◌&&◌}
use mathlib.Core.List.{List}
use mathlib.Core.Logic.{⊎_elim}
use native.Mathlib.Nat.{eq-or-lt_of_le, le_of_suc-le-suc}
use native.Mathlib.Numerals.{add-one}
use native.Mathlib.Omega.{arith}
use lib.Dec.{eqb, leb, ltb}
use lib.IntN.{ℤ}
use lib.ListN.{length}
use Rattle.std.proofs.lemmas.Grind.{common_steps}
use Rattle.words.specs.Words.{number_of}
use Rattle.words.proofs.PartLaws.{part_length}
use Rattle.table.specs.declared.Sizes.{Sizes}
use Rattle.table.specs.Layout.{sizes_of, length_of, shares_of, first_in, later_of, last_in, first_of, task_of}
use Rattle.table.specs.Validate.{share_ok_of}
use Rattle.table.specs.Walk.{Whole, Bounded}
use Rattle.table.specs.Passes.{Owned}

-- ---- first points
module _ (shares : List ℤ) where
  pub share-rise : (u : ℕ) → share_ok_of shares u ≡ true → first_in shares u < first_in shares (suc u)
  unfolding first_in number_of
  share-rise u e = grind (arith, common_steps)

  -- first points never fall, whatever the shares are
  pub first-le : (u k : ℕ) → u ≤ k → first_in shares u ≤ first_in shares k
  unfolding first_in
  first-le u zero l = let is : u ≡ 0 = omega arith in rw is (omega arith)
  first-le u (suc k) l = ⊎_elim (λ e. rw e (omega arith)) (λ lt. omega (arith, first-le u k (le_of_suc-le-suc lt))) (eq-or-lt_of_le l)

  -- ---- the last task, up to k, whose first point isn't past p
  -- u is a task up to k, and owns p
  record Owns (p k u : ℕ) : Type 0 where
    upto : u ≤ k
    first : first_in shares u ≤ p
    last : p < first_in shares (suc u)

  -- where p is a point of a task up to k, the answer owns it
  last-owns : (p k : ℕ) → p < first_in shares (suc k) → Owns p k (last_in shares p k)
  unfolding first_in last_in later_of
  last-owns p zero l = record { upto = zero-le; first = zero-le; last = l }
  last-owns p (suc k) l = let before : p < first_in shares (suc k) → Owns p k (last_in shares p k) = last-owns p k in grind (arith, common_steps)

  -- and no other task does
  owns-last : (p k u : ℕ) → Owns p k u → last_in shares p k ≡ u
  unfolding last_in later_of
  owns-last p zero u o = omega arith
  owns-last p (suc k) u o =
      let before : Owns p k u → last_in shares p k ≡ u = owns-last p k u in
      let rise : suc u ≤ suc k → first_in shares (suc u) ≤ first_in shares (suc k) = first-le (suc u) (suc k) in
      grind (arith, common_steps)

-- ---- the tasks of a table
module _ (t : List ℤ) (some : 1 ≤ (sizes_of t).tasks) (whole : length t ≡ length_of (sizes_of t)) where
  -- the last task, at which `task_of` begins
  last-task : suc (length (shares_of t) - 1) ≡ (sizes_of t).tasks
  unfolding shares_of
  last-task = omega (arith, part_length t 5 (sizes_of t).tasks (omega arith))

  pub task-owned : first_of t (sizes_of t).tasks ≡ (sizes_of t).points → (p : ℕ) → p < (sizes_of t).points → Owned t p
  unfolding first_of task_of
  task-owned sum p l =
      let is = last-task in
      let o = last-owns (shares_of t) p (length (shares_of t) - 1) (rw is (omega arith)) in
      record { task = omega arith; first = o.first; last = o.last }

  pub owned-task : (u p : ℕ) → u < (sizes_of t).tasks → first_of t u ≤ p → p < first_of t (suc u) → task_of t p ≡ u
  unfolding first_of task_of
  owned-task u p l f h = owns-last (shares_of t) p (length (shares_of t) - 1) u (record { upto = omega (arith, last-task); first = f; last = h })

-- ---- the points of one task are those that `task_of` gives it
module _ (t : List ℤ) (h : Whole t) (sum : first_of t (sizes_of t).tasks ≡ (sizes_of t).points) {u : ℕ} (there : u < (sizes_of t).tasks) where
  pub task_rise : first_of t u ≤ first_of t (u + 1)
  unfolding first_of
  task_rise = first-le (shares_of t) u (u + 1) (omega arith)

  pub last_within : first_of t (u + 1) ≤ (sizes_of t).points
  unfolding first_of
  last_within = rw (← sum) (first-le (shares_of t) (u + 1) (sizes_of t).tasks (omega arith))

  pub task-targets :
      {p : ℕ} → first_of t u ≤ p → p < first_of t (suc u) → (q : ℕ) →
      (leb (first_of t u) q && ltb q (first_of t (suc u))) ≡ (ltb q (sizes_of t).points && eqb (task_of t q) (task_of t p))
  task-targets {p} l m q =
      let owner : task_of t p ≡ u = owned-task t h.some h.whole u p there l m in
      let task : first_of t u ≤ q → q < first_of t (suc u) → task_of t q ≡ u = owned-task t h.some h.whole u q there in
      let owned : q < (sizes_of t).points → Owned t q = task-owned t h.some h.whole sum q in
      let within = rw add-one at last_within in
      grind (arith, common_steps)

  -- so what a point of the task may name is within these bounds
  pub bounded :
      {p first last : ℕ} {s : Sizes} → s ≡ sizes_of t → first ≡ first_of t u → last ≡ first_of t (u + 1) → first ≤ p → p < last →
      Bounded t p (record { variables = s.variables; mutexes = s.mutexes; nodes = s.nodes; first = first; last = last })
  bounded e f g l m = rw (e, f, g, add-one) (record { variables = refl; mutexes = refl; nodes = refl; targets = task-targets (rw f at l) (rw (g, add-one) at m) })
