-- What a comparison leaves of a row of at most sixteen slots: the cuts of those of its sides that are variables are written in place of the row's own
-- intervals, for they lie within those (specs/Cuts). And what is written, where the cuts are known.
-- Assumes nothing.
use Prim.Native.Nat.{ℕ, ◌<◌, ◌≤◌}
use mathlib.Core.Path.{◌≡◌, refl, sym, ◌∙◌}
use mathlib.Core.Bool.{Bool, true, false, cond}
use native.Mathlib.Omega.{arith}
use borrow.Author.Tests.{ltb-true, ltb-false, eqb-true, eqb-false, ne_eqb}
use lib.Dec.{ltb, eqb}
use lib.IntN.{ℤ, pos}
use lib.ListN.{length, set}
use lib.Seq.{get_or-set_same}
use lib.Signed.{le_z}
use Rattle.interval.specs.Interval.{on_ends, from_to, span}
use Rattle.interval.specs.Lattice.{meet_of}
use Rattle.interval.specs.Narrow.{cuts_of}
use Rattle.interval.specs.declared.Comparison.{Comparison}
use Rattle.interval.specs.declared.Cuts.{Cuts}
use Rattle.interval.specs.declared.Interval.{Interval}
use Rattle.interval.proofs.LatticeLaws.{meet-none}
use Rattle.interval.proofs.NarrowLaws.{cuts-met}
use Rattle.std.proofs.lemmas.Grind.{common_steps}
use Rattle.table.specs.Tree.{Arith, constant, input, variable, negation, binary, choice, no_arith, compare}
use Rattle.analysis.specs.Rows.{Row, row_of, range_of, then_row, put_of, meet_at_of}
use Rattle.analysis.specs.Analysis.{carry_of, carry_both_of, value_of, narrow_of}
use Rattle.analysis.specs.Cuts.{variable_or, met_if, cut_row_of}
use Rattle.std.specs.Prelude.{None, Option, Some}

-- ---- rows of at most sixteen slots
record Short (r : Row) : Type 0 where
  pub low : length r.lows ≤ 16
  pub high : length r.highs ≤ 16

abbrev put_in : Row → ℕ → ℤ → ℤ → Row
put_in r p a b = row_of (set r.lows p a) (set r.highs p b)

module _ (r : Row) (h : Short r) where
  put-short : (p : ℕ) (a b : ℤ) → Short (put_in r p a b)
  put-short p a b = grind (arith, common_steps)

  -- past the slots nothing is put in, and every interval is 0..0
  put-past : (p : ℕ) (a b : ℤ) → 16 ≤ p → put_of r p (span a b) ≡ Some r
  unfolding put_of
  put-past p a b k = grind (arith, common_steps)

  range-past : (v : ℕ) → 16 ≤ v → range_of r v ≡ span (pos 0) (pos 0)
  range-past v k = grind (arith, common_steps)

  meet-past : (v : ℕ) (a b : ℤ) → 16 ≤ v → meet_of (range_of r v) (span a b) ≡ span a b → meet_at_of r v (span a b) ≡ Some r
  unfolding meet_at_of
  meet-past v a b k m = rw m (put-past v a b k)

-- ---- the slot of a side
slot-or : (P : ℕ → Type 0) (past : ℕ) → P past → ((v : ℕ) → v < 16 → P v) → (x : Arith) → P (variable_or past x)
unfolding variable_or
slot-or P past p f (constant n z) = p
slot-or P past p f (input n a b) = p
slot-or P past p f (variable n v) = by (ltb v 16) refl
  where
    by : (t : Bool) → ltb v 16 ≡ t → P (cond t v past)
    by true e = f v (ltb-true v 16 e)
    by false e = p
slot-or P past p f (negation n x) = p
slot-or P past p f (binary n op x y) = p
slot-or P past p f (choice n c x y) = p
slot-or P past p f (no_arith n) = p

below : (x : Arith) → variable_or 16 x ≤ 16
below = slot-or (λ v. v ≤ 16) 16 (omega arith) (λ v k. omega arith)

-- one variable on both sides has a slot
pub slots-differ : (x y : Arith) → variable_or 16 x ≡ variable_or 17 y → variable_or 16 x < 16
slots-differ x y =
    let k = below x in
    slot-or (λ w. variable_or 16 x ≡ w → variable_or 16 x < 16) 17 (λ e. omega arith) (λ w l e. omega arith) y

-- ---- carrying the cut a..b back is f of the side's slot, and of past where it has none: the row as it was
module _ (s : Row) (a b : ℤ) (f : ℕ → Option Row) (past : ℕ) (out : f past ≡ Some s) where
  slot_is :
      (v : ℕ) → (v < 16 → meet_at_of s v (span a b) ≡ f v) → (16 ≤ v → meet_at_of s v (span a b) ≡ Some s)
      → meet_at_of s v (span a b) ≡ f (cond (ltb v 16) v past)
  slot_is v g h = by (ltb v 16) refl
    where
      by : (t : Bool) → ltb v 16 ≡ t → meet_at_of s v (span a b) ≡ f (cond t v past)
      by true e = g (ltb-true v 16 e)
      by false e = h (ltb-false v 16 e) ∙ sym out

  carry-is :
      (x : Arith)
      → ((n v : ℕ) → x ≡ variable n v → v < 16 → meet_at_of s v (span a b) ≡ f v)
      → ((n v : ℕ) → x ≡ variable n v → 16 ≤ v → meet_at_of s v (span a b) ≡ Some s)
      → carry_of x (span a b) s ≡ f (variable_or past x)
  unfolding carry_of variable_or
  carry-is (constant n z) g h = sym out
  carry-is (input n c d) g h = sym out
  carry-is (variable n v) g h = slot_is v (g n v refl) (h n v refl)
  carry-is (negation n x) g h = sym out
  carry-is (binary n op x y) g h = sym out
  carry-is (choice n c x y) g h = sym out
  carry-is (no_arith n) g h = sym out

-- ---- the first side
first-is :
    (r : Row) → Short r → (x : Arith) (a b : ℤ)
    → meet_of (value_of x r) (span a b) ≡ span a b
    → carry_of x (span a b) r ≡ put_of r (variable_or 16 x) (span a b)
unfolding value_of meet_at_of
first-is r h x a b m = carry-is r a b (λ v. put_of r v (span a b)) 16 (put-past r h 16 a b (omega arith)) x
    (λ n v e k. rw (rw e at m))
    (λ n v e k. meet-past r h v a b k (rw e at m))

-- ---- the second, after the cut a..b was put at p
abbrev second_of : Row → ℕ → Option Interval → ℕ → Option Row
second_of s p t w = cond (eqb p w) (meet_at_of s w t) (put_of s w t)

second_none : (s : Row) (p w : ℕ) → None ≡ second_of s p None w
unfolding meet_at_of put_of
second_none s p w = rw (meet-none (range_of s w)) (by (eqb p w))
  where
    by : (q : Bool) → ◌≡◌ {A = Option Row} None (cond q None None)
    by true = refl
    by false = refl

module _ (r : Row) (h : Short r) (p : ℕ) (k : p ≤ 16) (a b : ℤ) where
  -- the others are as they were
  range_other : (v : ℕ) → (v ≡ p → ⊥) → range_of (put_in r p a b) v ≡ range_of r v
  range_other v n = grind (arith, common_steps)

  slot-second : (v : ℕ) (t : Option Interval) → meet_of (range_of r v) t ≡ t → meet_at_of (put_in r p a b) v t ≡ second_of (put_in r p a b) p t v
  unfolding meet_at_of
  slot-second v t m = by (eqb p v) refl
    where
      by : (q : Bool) → eqb p v ≡ q → meet_at_of (put_in r p a b) v t ≡ cond q (meet_at_of (put_in r p a b) v t) (put_of (put_in r p a b) v t)
      by true e = refl
      by false e = rw (range_other v (λ i. eqb-false p v e (sym i)), m)

  second_is : (y : Arith) (t : Option Interval) → meet_of (value_of y r) t ≡ t → carry_of y t (put_in r p a b) ≡ second_of (put_in r p a b) p t (variable_or 17 y)
  unfolding value_of carry_of
  second_is y None m = second_none (put_in r p a b) p (variable_or 17 y)
  second_is y (Some j) m =
      let s = put_in r p a b in
      let i = put-short r h p a b in
      carry-is s j.low j.high (second_of s p (span j.low j.high)) 17
      (rw (ne_eqb p 17 (λ e. omega arith)) (put-past s i 17 j.low j.high (omega arith)))
      y
      (λ n v e l. slot-second v (span j.low j.high) (rw e at m))
      (λ n v e l. meet-past s i v j.low j.high l (rw (range-past s i v l ∙ sym (range-past r h v l)) (rw e at m)))

-- ---- both
both_is :
    (r : Row) → Short r → (x y : Arith) (l t : Option Interval) → meet_of (value_of x r) l ≡ l → meet_of (value_of y r) t ≡ t
    → then_row (carry_of x l r) (λ s. carry_of y t s) ≡ then_row (put_of r (variable_or 16 x) l) (λ s. second_of s (variable_or 16 x) t (variable_or 17 y))
unfolding carry_of put_of then_row
both_is r h x y None t m n = refl
both_is r h x y (Some e) t m n = rw (first-is r h x e.low e.high m) (second_is r h (variable_or 16 x) (below x) e.low e.high y t n)

pub narrow_cuts :
    (n : ℕ) (k : Comparison) (x y : Arith) (w : Bool) (r : Row)
    → length r.lows ≤ 16
    → length r.highs ≤ 16
    → narrow_of (compare n k x y) w r ≡ cut_row_of r (variable_or 16 x) (variable_or 17 y) (cuts_of k w (value_of x r) (value_of y r))
unfolding narrow_of carry_both_of cut_row_of
narrow_cuts n k x y w r i j =
    let m = cuts-met k w (value_of x r) (value_of y r) in
    both_is r (record { low = i; high = j }) x y _ _ m.0 m.1

-- ---- what is written, where the first cut is known
-- a meet takes lo..hi as none where lo is above hi
meet-taken : (lo hi : ℤ) (t : Option Interval) → meet_of (from_to lo hi) t ≡ meet_of (span lo hi) t
unfolding meet_of on_ends
meet-taken lo hi t = by (le_z lo hi) refl
  where
    by : (q : Bool) → le_z lo hi ≡ q → meet_of (cond q (span lo hi) None) t ≡ meet_of (span lo hi) t
    by true e = refl
    by false e = rw e

pub cut-written :
    (r : Row)
    → length r.lows ≡ 16
    → length r.highs ≡ 16
    → (v x : ℕ) (u : Cuts) (lo hi : ℤ)
    → (v ≡ x → v < 16)
    → u.left ≡ span lo hi
    → cut_row_of r v x u ≡ put_of (row_of (set r.lows v lo) (set r.highs v hi)) x (met_if (eqb v x) u.left u.right)
unfolding cut_row_of then_row put_of meet_at_of met_if
cut-written r i j v x u lo hi h e = rw e (by (eqb v x) refl)
  where
    by :
        (q : Bool) → eqb v x ≡ q
        → cond q (meet_at_of (put_in r v lo hi) x u.right) (put_of (put_in r v lo hi) x u.right)
        ≡ put_of (put_in r v lo hi) x (cond q (meet_of (span lo hi) u.right) u.right)
    by true f =
        let g = eqb-true v x f in
        let k = h g in
        rw (
          ← g,
          get_or-set_same r.lows v lo (pos 0) (omega arith),
          get_or-set_same r.highs v hi (pos 0) (omega arith),
          meet-taken lo hi u.right,
        )
    by false f = refl

pub cut-first-none : (r : Row) (v x : ℕ) (u : Cuts) → u.left ≡ None → cut_row_of r v x u ≡ None
unfolding cut_row_of then_row put_of
cut-first-none r v x u e = rw e
