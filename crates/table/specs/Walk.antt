-- The code's one walk for refusals 4 to 6: what it gives at a place and over places, and what it knows of the table.
-- Assumes nothing.
use Rattle.std.specs.Prelude.{ℕ, ◌≤◌, ◌≡◌, Bool, true, ◌&&◌, List, eqb, leb, ltb, ℤ, length, Option, None}
use Rattle.words.specs.First.{first_bad}
use Rattle.table.specs.declared.Bounds.{Bounds}
use Rattle.table.specs.Layout.{sizes_of, length_of, task_of}
use Rattle.table.specs.Uses.{refs_below, uses_in}

-- ---- what the walk gives; `before` and `after` are the counts
-- at a place: whether it is as it must be, and where it is, the counts after the uses of the nodes that it names
pub record Counted (ok : Bool) (refs before after : List ℕ) (r : Bool) : Type 0 where
  pub is : r ≡ ok
  pub uses : r ≡ true → after ≡ uses_in before refs

-- over the first n places: the smallest that fails, and where none does, the counts after the uses of them all
pub record Walked (ok : ℕ → Bool) (refs : ℕ → List ℕ) (n : ℕ) (before after : List ℕ) (r : Option ℕ) : Type 0 where
  pub is : r ≡ first_bad ok n
  pub uses : r ≡ None → after ≡ uses_in before (refs_below refs n)

-- after a walk over the first `from` places that found none, the same over the first `to`
abbrev pub WalkedOn : (ℕ → Bool) → (ℕ → List ℕ) → ℕ → ℕ → List ℕ → List ℕ → Option ℕ → Type 0
WalkedOn ok refs from to before after r = (start : List ℕ) → Walked ok refs from start before None → Walked ok refs to start after r

-- ---- what the walk knows of a table t
-- its sizes and its length have passed
pub record Whole (t : List ℤ) : Type 0 where
  pub some : 1 ≤ (sizes_of t).tasks
  pub few : (sizes_of t).nodes ≤ 1024
  pub whole : length t ≡ length_of (sizes_of t)

-- what the point p may name is within b
pub record Bounded (t : List ℤ) (p : ℕ) (b : Bounds) : Type 0 where
  pub variables : b.variables ≡ (sizes_of t).variables
  pub mutexes : b.mutexes ≡ (sizes_of t).mutexes
  pub nodes : b.nodes ≡ (sizes_of t).nodes
  pub targets : (q : ℕ) → (leb b.first q && ltb q b.last) ≡ (ltb q (sizes_of t).points && eqb (task_of t q) (task_of t p))
