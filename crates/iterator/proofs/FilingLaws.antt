-- Under which head a point is filed, and where the entry of a head stands, as points are gone through.
-- Assumes nothing.
use Prim.Native.Nat.{ℕ, suc, ◌<◌, ◌≤◌}
use mathlib.Core.Path.{◌≡◌, refl, sym, ◌∙◌}
use mathlib.Core.Bool.{Bool, true, false, not}
use mathlib.Core.List.{List}
use native.Mathlib.Omega.{arith}
use borrow.Author.Tests.{eq-eqb, ne_eqb}
use lib.Dec.{eqb}
use lib.IntN.{ℤ}
use Rattle.words.specs.First.{unless, or_else, first_bad}
use Rattle.words.proofs.Bools.{clash}
use Rattle.words.proofs.FirstLaws.{stop, first_bad-smallest, smallest-first_bad}
use Rattle.table.specs.Layout.{sizes_of, points_of, task_of}
use Rattle.table.specs.Decode.{point_of}
use Rattle.table.specs.declared.Point.{Point}
use Rattle.table.specs.declared.Point.TheVariants.{End, Assign, Test, Lock, Unlock}
use Rattle.proposer.specs.Passes.{code_of, files_by, files_at, slot_of, written_to}
use Rattle.proposer.proofs.SlotLaws.{slot-files, slot-code}
use Rattle.iterator.specs.Plan.{code_at, is_at, is_assign, slot_if, is_slot}
use Rattle.std.specs.Prelude.{Option, None, Some}

-- ---- assignments are filed, under the head of what they write
pub files-assign : (t : List ℤ) (x : Point) (u s c : ℕ) → is_assign x ≡ true → files_by t x u s c ≡ eqb (code_of t u s (written_to x)) c
unfolding files_by is_assign written_to
files-assign t End u s c e = clash (sym e)
files-assign t (Assign v y q) u s c e = refl
files-assign t (Test b y n) u s c e = clash (sym e)
files-assign t (Lock m q) u s c e = clash (sym e)
files-assign t (Unlock m q) u s c e = clash (sym e)

pub files-other : (t : List ℤ) (x : Point) (u s c : ℕ) → is_assign x ≡ false → files_by t x u s c ≡ false
unfolding files_by is_assign
files-other t End u s c e = refl
files-other t (Assign v y q) u s c e = clash e
files-other t (Test b y n) u s c e = refl
files-other t (Lock m q) u s c e = refl
files-other t (Unlock m q) u s c e = refl

-- ---- the smallest failing place, one place further
pub first_bad-same : (f : ℕ → Bool) (p : ℕ) → f p ≡ true → first_bad f (suc p) ≡ first_bad f p
unfolding first_bad or_else unless
first_bad-same f p e = rw e (same (first_bad f p))
  where
    same : (x : Option ℕ) → or_else x None ≡ x
    same None = refl
    same (Some q) = refl

pub first_bad-here : (f : ℕ → Bool) (p n : ℕ) → p < n → first_bad f p ≡ None → f p ≡ false → first_bad f n ≡ Some p
first_bad-here f p n l none e = sym (stop (record { within = omega arith; none = none }) l e)

pub first_bad-stays : (f : ℕ → Bool) (p n q : ℕ) → p ≤ n → first_bad f p ≡ Some q → first_bad f n ≡ Some q
first_bad-stays f p n q l e =
    let s = first_bad-smallest f p q e in
    smallest-first_bad f n q (record { below = omega (arith, s.below); fails = s.fails; earlier = s.earlier })

-- ---- where writes are filed there is a slot
pub slot_is : (t : List ℤ) (h : ℕ → ℕ) (c q : ℕ) → slot_of t h c ≡ Some q → is_slot t h q ≡ true
unfolding is_slot slot_if is_at
slot_is t h c q found = by (is_assign (point_of (points_of t) q)) refl
  where
    by : (b : Bool) → is_assign (point_of (points_of t) q) ≡ b → is_slot t h q ≡ true
    by false e = clash (sym (slot-files t h c q found) ∙ files-other t (point_of (points_of t) q) (task_of t q) (h q) c e)
    by true e = rw (e, slot-code t h c q found, found) (eq-eqb q q refl)

-- ---- the point p, by what stands there and by where the entry of its head stands so far
module _ (t : List ℤ) (h : ℕ → ℕ) where
  -- not filed under c
  abbrev pub apart : ℕ → ℕ → Bool
  apart c p = not (files_at t h c p)

  pub apart_other : (c p : ℕ) → is_assign (point_of (points_of t) p) ≡ false → apart c p ≡ true
  apart_other c p e = rw (files-other t (point_of (points_of t) p) (task_of t p) (h p) c e)

  module _ (p : ℕ) (e : is_assign (point_of (points_of t) p) ≡ true) where
    pub apart-here : apart (code_at t h p) p ≡ false
    apart-here = rw (files-assign t (point_of (points_of t) p) (task_of t p) (h p) (code_at t h p) e, eq-eqb (code_at t h p) (code_at t h p) refl)

    pub apart-elsewhere : (c : ℕ) → (code_at t h p ≡ c → ⊥) → apart c p ≡ true
    apart-elsewhere c d = rw (files-assign t (point_of (points_of t) p) (task_of t p) (h p) c e, ne_eqb (code_at t h p) c d)

    module _ (below : p < (sizes_of t).points) where
      -- the first under its head
      module _ (first : first_bad (apart (code_at t h p)) p ≡ None) where
        pub first_slot : slot_of t h (code_at t h p) ≡ Some p
        unfolding slot_of
        first_slot = first_bad-here (apart (code_at t h p)) p (sizes_of t).points below first apart-here

        pub first-is : is_slot t h p ≡ true
        first-is = slot_is t h (code_at t h p) p first_slot

      -- one after the first
      module _ (q : ℕ) (later : first_bad (apart (code_at t h p)) p ≡ Some q) where
        pub later-slot : slot_of t h (code_at t h p) ≡ Some q
        unfolding slot_of
        later-slot = first_bad-stays (apart (code_at t h p)) p (sizes_of t).points q (omega arith) later

        pub later-is : is_slot t h p ≡ false
        unfolding is_slot slot_if is_at
        later-is =
            let s = first_bad-smallest (apart (code_at t h p)) p q later in
            rw (e, later-slot) (ne_eqb q p (omega (arith, s.below)))

  pub other-is : (p : ℕ) → is_assign (point_of (points_of t) p) ≡ false → is_slot t h p ≡ false
  unfolding is_slot slot_if
  other-is p e = rw e
