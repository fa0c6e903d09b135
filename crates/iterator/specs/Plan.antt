-- What of a table and its held sets is known before the first pass, as the struct `Plan` has it. No definition of the proposal needs this.
-- Assumes nothing.
use Rattle.std.specs.Prelude.{ℕ, ◌*◌, ◌<◌, ◌≤◌, ◌≡◌, Bool, true, false, List, eqb, ℤ, get_or, take, Option, None, Some}
use Rattle.table.specs.Layout.{sizes_of, points_of, task_of}
use Rattle.table.specs.Decode.{point_of}
use Rattle.table.specs.declared.Sizes.{Sizes}
use Rattle.table.specs.declared.Point.{Point}
use Rattle.table.specs.declared.Point.TheVariants.{End, Assign, Test, Lock, Unlock}
use Rattle.proposer.specs.Fold.{those}
use Rattle.proposer.specs.Walk.{sets_of}
use Rattle.proposer.specs.Widen.{Places, place_in}
use Rattle.proposer.specs.Passes.{code_of, slot_of, written_to}
use Rattle.iterator.specs.declared.plan.Plan.{Plan}

-- the sizes s are those of the table t, and within their limits
pub record Small (t : List ℤ) (s : Sizes) : Type 0 where
  pub tasks-are : s.tasks ≡ (sizes_of t).tasks
  pub variables-are : s.variables ≡ (sizes_of t).variables
  pub mutexes-are : s.mutexes ≡ (sizes_of t).mutexes
  pub points-are : s.points ≡ (sizes_of t).points
  pub tasks : s.tasks ≤ 8
  pub variables : s.variables ≤ 16
  pub mutexes : s.mutexes ≤ 8
  pub points : s.points ≤ 256

-- the held set of a point
abbrev pub held_in : Plan → ℕ → ℕ
held_in plan p = get_or plan.held p 0

-- how many heads there are, and the head of what an assignment at p writes
abbrev pub code_count : List ℤ → ℕ
code_count t = (sizes_of t).tasks * sets_of t * (sizes_of t).variables

abbrev pub code_at : List ℤ → (ℕ → ℕ) → ℕ → ℕ
code_at t h p = code_of t (task_of t p) (h p) (written_to (point_of (points_of t) p))

-- q was found
unfoldable pub is_at : Option ℕ → ℕ → Bool
is_at None q = false
is_at (Some p) q = eqb p q

unfoldable pub is_assign : Point → Bool
is_assign End = false
is_assign (Assign v e q) = true
is_assign (Test c y n) = false
is_assign (Lock m q) = false
is_assign (Unlock m q) = false

-- an entry can stand at q: it is the smallest point whose write is filed under its head
unfoldable pub slot_if : Bool → List ℤ → (ℕ → ℕ) → ℕ → Bool
slot_if true t h q = is_at (slot_of t h (code_at t h q)) q
slot_if false t h q = false

unfoldable pub is_slot : List ℤ → (ℕ → ℕ) → ℕ → Bool
is_slot t h q = slot_if (is_assign (point_of (points_of t) q)) t h q

unfoldable pub slots_of : List ℤ → (ℕ → ℕ) → List ℕ
slots_of t h = those (is_slot t h) (sizes_of t).points

-- entries stand nowhere else
pub record Filed (t : List ℤ) (h : ℕ → ℕ) (entries : Places) : Type 0 where
  pub elsewhere : (q : ℕ) → is_slot t h q ≡ false → place_in entries q ≡ None

pub record Planned (t : List ℤ) (plan : Plan) : Type 0 where
  pub held : (p : ℕ) → p < (sizes_of t).points → held_in plan p < sets_of t
  pub task : (p : ℕ) → p < (sizes_of t).points → get_or plan.tasks p 0 ≡ task_of t p
  pub place : (p : ℕ) → p < (sizes_of t).points → is_assign (point_of (points_of t) p) ≡ true
      → slot_of t (held_in plan) (code_at t (held_in plan) p) ≡ Some (get_or plan.places p 0)
  pub variable : (p : ℕ) → p < (sizes_of t).points → is_assign (point_of (points_of t) p) ≡ true
      → get_or plan.variables p 0 ≡ written_to (point_of (points_of t) p)
  pub few : plan.count ≤ 256
  pub listed : take plan.count plan.listed ≡ slots_of t (held_in plan)
  pub head : (c : ℕ) → c < code_count t → get_or plan.heads c None ≡ slot_of t (held_in plan) c
