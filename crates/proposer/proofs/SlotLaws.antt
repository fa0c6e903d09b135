-- Where writes are filed: the variable that a point writes is one of the table's, its head one of all heads, and the slot of a head is a point that files under it.
-- Assumes nothing.
use Prim.Native.Nat.{ℕ, ◌*◌, ◌<◌}
use mathlib.Core.Path.{◌≡◌, refl, sym, ap, ◌∙◌}
use mathlib.Core.Bool.{true, not}
use mathlib.Core.List.{List}
use borrow.Author.Tests.{eqb-true, not-false}
use lib.IntN.{ℤ}
use Rattle.words.proofs.Bools.{clash}
use Rattle.words.proofs.FirstLaws.{first_bad-smallest, first_bad-none}
use Rattle.table.specs.Layout.{sizes_of, points_of, task_of}
use Rattle.table.specs.Decode.{point_of}
use Rattle.table.specs.Passes.{Passes, FormedPoint}
use Rattle.table.specs.declared.Point.{Point}
use Rattle.table.specs.declared.Point.TheVariants.{End, Assign, Test, Lock, Unlock}
use Rattle.proposer.specs.Walk.{sets_of}
use Rattle.proposer.specs.Passes.{code_of, files_by, files_at, slot_of, written_to}
use Rattle.proposer.proofs.CodeLaws.{pair-below}
use Rattle.std.specs.Prelude.{Option, None, Some}

-- ---- the variable of a point
written_below : (t : List ℤ) (p : ℕ) (x : Point) → 0 < (sizes_of t).variables → FormedPoint t p x → written_to x < (sizes_of t).variables
unfolding FormedPoint written_to
written_below t p End l f = l
written_below t p (Assign v e q) l f = f.0
written_below t p (Test c y n) l f = l
written_below t p (Lock m q) l f = l
written_below t p (Unlock m q) l f = l

pub variable-below : (t : List ℤ) → Passes t → (p : ℕ) → p < (sizes_of t).points → written_to (point_of (points_of t) p) < (sizes_of t).variables
variable-below t passes p l = written_below t p (point_of (points_of t) p) passes.variables.low (passes.point p l)

-- ---- how many heads there are
abbrev pub codes : List ℤ → ℕ
codes t = (sizes_of t).tasks * sets_of t * (sizes_of t).variables

pub code_below : (t : List ℤ) (u s v : ℕ) → u < (sizes_of t).tasks → s < sets_of t → v < (sizes_of t).variables → code_of t u s v < codes t
code_below t u s v lu ls lv = pair-below _ v ((sizes_of t).tasks * sets_of t) (sizes_of t).variables (pair-below u s (sizes_of t).tasks (sets_of t) lu ls) lv

-- a point that files under c writes the variable of c
files-code : (t : List ℤ) (x : Point) (u s c : ℕ) → files_by t x u s c ≡ true → code_of t u s (written_to x) ≡ c
unfolding files_by written_to
files-code t End u s c e = clash (sym e)
files-code t (Assign v y q) u s c e = eqb-true _ _ e
files-code t (Test b y n) u s c e = clash (sym e)
files-code t (Lock m q) u s c e = clash (sym e)
files-code t (Unlock m q) u s c e = clash (sym e)

module _ (t : List ℤ) (h : ℕ → ℕ) where
  -- ---- the head of a point
  abbrev pub head_code : ℕ → ℕ
  head_code q = code_of t (task_of t q) (h q) (written_to (point_of (points_of t) q))

  pub head-below : Passes t → (q : ℕ) → q < (sizes_of t).points → h q < sets_of t → head_code q < codes t
  head-below passes q l s = code_below t (task_of t q) (h q) (written_to (point_of (points_of t) q)) (passes.owned q l).task s (variable-below t passes q l)

  pub files-head : (c q : ℕ) → files_at t h c q ≡ true → head_code q ≡ c
  files-head c q e = files-code t (point_of (points_of t) q) (task_of t q) (h q) c e

  -- ---- slots
  pub slot-below : (c q : ℕ) → slot_of t h c ≡ Some q → q < (sizes_of t).points
  unfolding slot_of
  slot-below c q e = (first_bad-smallest (λ p. not (files_at t h c p)) (sizes_of t).points q e).below

  pub slot-files : (c q : ℕ) → slot_of t h c ≡ Some q → files_at t h c q ≡ true
  unfolding slot_of
  slot-files c q e = not-false _ (first_bad-smallest (λ p. not (files_at t h c p)) (sizes_of t).points q e).fails

  pub slot-code : (c q : ℕ) → slot_of t h c ≡ Some q → head_code q ≡ c
  slot-code c q e = files-head c q (slot-files c q e)

  -- where p files under c there is a slot
  pub slot-found : (c p : ℕ) → p < (sizes_of t).points → files_at t h c p ≡ true → (q : ℕ) × (slot_of t h c ≡ Some q)
  unfolding slot_of
  slot-found c p l e = by (slot_of t h c) refl
    where
      by : (f : Option ℕ) → slot_of t h c ≡ f → (q : ℕ) × (slot_of t h c ≡ Some q)
      by (Some q) z = (q, z)
      by None z = clash (sym (first_bad-none (λ p. not (files_at t h c p)) (sizes_of t).points z p l) ∙ ap not e)
