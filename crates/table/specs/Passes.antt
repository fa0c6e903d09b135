-- What a table t that passes refusals 1 to 6 gives.
-- Assumes nothing.
use Rattle.std.specs.Prelude.{ℕ, suc, ◌<◌, ◌≤◌, ◌≡◌, true, List, ℤ, length, ◌≤ℤ◌}
use Rattle.table.specs.declared.Shape.{Shape}
use Rattle.table.specs.declared.Shape.TheVariants.{Constant, Input, Variable, Negation, Binary, Choice, Compare, Both, Either, Not, Bad}
use Rattle.table.specs.declared.Point.{Point}
use Rattle.table.specs.declared.Point.TheVariants.{End, Assign, Test, Lock, Unlock}
use Rattle.table.specs.Layout.{sizes_of, length_of, points_of, nodes_of, first_of, task_of}
use Rattle.table.specs.Decode.{is_arithmetic, is_condition, shape_of, point_of}
use Rattle.table.specs.Formed.{kind_of}
use Rattle.table.specs.Uses.{node_refs, point_refs, count_of, uses_of}

pub record Between (lo hi n : ℕ) : Type 0 where
  pub low : lo ≤ n
  pub high : n ≤ hi

-- x is an arithmetic node, or a condition, below n
pub record ArithmeticBelow (ns : List ℤ) (n x : ℕ) : Type 0 where
  pub below : x < n
  pub sort : is_arithmetic (kind_of ns x) ≡ true

pub record ConditionBelow (ns : List ℤ) (n x : ℕ) : Type 0 where
  pub below : x < n
  pub sort : is_condition (kind_of ns x) ≡ true

-- the point q is one of the task that owns p
pub record SameTask (t : List ℤ) (p q : ℕ) : Type 0 where
  pub point : q < (sizes_of t).points
  pub task : task_of t q ≡ task_of t p

-- each child of the node n, of this shape, is below it and of its sort
unfoldable pub FormedNode : List ℤ → ℕ → Shape → Type 0
FormedNode t n (Constant z) = Unit {0}
FormedNode t n (Input l h) = l ≤ℤ h
FormedNode t n (Variable v) = v < (sizes_of t).variables
FormedNode t n (Negation x) = ArithmeticBelow (nodes_of t) n x
FormedNode t n (Binary op x y) = ArithmeticBelow (nodes_of t) n x × ArithmeticBelow (nodes_of t) n y
FormedNode t n (Choice x y z) = ConditionBelow (nodes_of t) n x × ArithmeticBelow (nodes_of t) n y × ArithmeticBelow (nodes_of t) n z
FormedNode t n (Compare k x y) = ArithmeticBelow (nodes_of t) n x × ArithmeticBelow (nodes_of t) n y
FormedNode t n (Both x y) = ConditionBelow (nodes_of t) n x × ConditionBelow (nodes_of t) n y
FormedNode t n (Either x y) = ConditionBelow (nodes_of t) n x × ConditionBelow (nodes_of t) n y
FormedNode t n (Not x) = ConditionBelow (nodes_of t) n x
FormedNode t n Bad = ⊥

-- the variable, the mutex and the node of a point are in range, the node is of its sort, and the targets lie in the same task
unfoldable pub FormedPoint : List ℤ → ℕ → Point → Type 0
FormedPoint t p End = Unit {0}
FormedPoint t p (Assign v e q) = (v < (sizes_of t).variables) × ArithmeticBelow (nodes_of t) (sizes_of t).nodes e × SameTask t p q
FormedPoint t p (Test c y n) = ConditionBelow (nodes_of t) (sizes_of t).nodes c × SameTask t p y × SameTask t p n
FormedPoint t p (Lock m q) = (m < (sizes_of t).mutexes) × SameTask t p q
FormedPoint t p (Unlock m q) = (m < (sizes_of t).mutexes) × SameTask t p q

-- the task that owns p has p among its own points
pub record Owned (t : List ℤ) (p : ℕ) : Type 0 where
  pub task : task_of t p < (sizes_of t).tasks
  pub first : first_of t (task_of t p) ≤ p
  pub last : p < first_of t (suc (task_of t p))

pub record Passes (t : List ℤ) : Type 0 where
  -- the sizes are within their limits, and the length is what they call for
  pub tasks : Between 1 8 (sizes_of t).tasks
  pub variables : Between 1 16 (sizes_of t).variables
  pub mutexes : Between 0 8 (sizes_of t).mutexes
  pub points : Between 1 256 (sizes_of t).points
  pub nodes : Between 0 1024 (sizes_of t).nodes
  pub whole : length t ≡ length_of (sizes_of t)
  -- each task has at least one point, and the tasks' points follow one another and are all the points
  pub share : (u : ℕ) → u < (sizes_of t).tasks → first_of t u < first_of t (suc u)
  pub sum : first_of t (sizes_of t).tasks ≡ (sizes_of t).points
  pub owned : (p : ℕ) → p < (sizes_of t).points → Owned t p
  pub owner : (u p : ℕ) → u < (sizes_of t).tasks → first_of t u ≤ p → p < first_of t (suc u) → task_of t p ≡ u
  pub node : (n : ℕ) → n < (sizes_of t).nodes → FormedNode t n (shape_of (nodes_of t) n)
  pub point : (p : ℕ) → p < (sizes_of t).points → FormedPoint t p (point_of (points_of t) p)
  -- each node is used exactly once, so that no two points, no two parents, and no point and parent share one
  pub used : (n : ℕ) → n < (sizes_of t).nodes → uses_of t n ≡ 1
  pub points-apart : (n p q : ℕ) → p < (sizes_of t).points → q < (sizes_of t).points
      → 1 ≤ count_of n (point_refs (points_of t) p) → 1 ≤ count_of n (point_refs (points_of t) q) → n < (sizes_of t).nodes → p ≡ q
  pub parents-apart : (n p q : ℕ) → p < (sizes_of t).nodes → q < (sizes_of t).nodes
      → 1 ≤ count_of n (node_refs (nodes_of t) p) → 1 ≤ count_of n (node_refs (nodes_of t) q) → n < (sizes_of t).nodes → p ≡ q
  pub child-apart : (n p q : ℕ) → p < (sizes_of t).points → q < (sizes_of t).nodes
      → 1 ≤ count_of n (point_refs (points_of t) p) → 1 ≤ count_of n (node_refs (nodes_of t) q) → n < (sizes_of t).nodes → ⊥
