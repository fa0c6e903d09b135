-- Laws of the remainder: an exact one lies between 0 and its dividend and is below its divisor's magnitude; D is the greatest magnitude of the
-- divisors, less 1; and each end is a least or a greatest, so that it grows with both operands.
-- Assumes nothing.
use Prim.Native.Nat.{suc, ◌<◌}
use mathlib.Core.Path.{◌≡◌, refl}
use mathlib.Core.Bool.{Bool, true, false, cond, ◌&&◌}
use mathlib.Core.Logic.{◌⊎◌, inl, inr}
use native.Mathlib.Nat.{mod-lt, mod-le}
use lib.IntN.{ℤ, pos, negsuc, neg_ℤ, nat_abs, ◌+ℤ◌, ◌-ℤ◌}
use lib.Signed.{rem_z, ◌≤ℤ◌}
use Rattle.interval.specs.Integer.{eq_z}
use Rattle.interval.specs.Interval.{Within}
use Rattle.interval.specs.Arithmetic.{magnitude, pair, largest_of, remainder_low_of, remainder_high_of, remainders_of}
use Rattle.interval.specs.declared.Uncut.{Uncut}
use Rattle.interval.proofs.IntegerLaws.{ints, lt_z-cases, max-one, eq_z-yes, eq_z-no}
use Rattle.interval.proofs.IntervalLaws.{first, last, Inside}
use Rattle.std.specs.Int.{int_min, int_max}
use Rattle.std.proofs.lemmas.Int.{clamps, to_z-of_z}
use Rattle.std.specs.Prelude.{None, Option}

-- ---- exact remainders
-- from 0 to the dividend
pub rem-toward-zero : (x y : ℤ) → Within (int_min x (pos 0)) (int_max x (pos 0)) (rem_z x y)
rem-toward-zero (pos a) y = let h = mod-le a (nat_abs y) in record { low = omega (ints, clamps); high = omega (ints, clamps) }
rem-toward-zero (negsuc a) y = let h = mod-le (suc a) (nat_abs y) in record { low = omega (ints, clamps); high = omega (ints, clamps) }

-- from -most to most, where no divisor has a magnitude above most + 1
abs-pos : (y : ℤ) → (y ≡ pos 0 → ⊥) → 0 < nat_abs y
abs-pos y n = omega ints

pub rem_below : (x y : ℤ) {most : ℤ} → (y ≡ pos 0 → ⊥) → magnitude y ≤ℤ (most +ℤ pos 1) → Within (neg_ℤ most) most (rem_z x y)
rem_below (pos a) y n h = let k = mod-lt a (abs-pos y n) in record { low = omega ints; high = omega ints }
rem_below (negsuc a) y n h = let k = mod-lt (suc a) (abs-pos y n) in record { low = omega ints; high = omega ints }

-- ---- D
-- at the ends of c..d there is the greatest magnitude
pub largest-bounds : (c d y : ℤ) → Within c d y → magnitude y ≤ℤ (largest_of c d +ℤ pos 1)
unfolding largest_of
largest-bounds c d y p = omega (ints, clamps)

-- D and 1 are that
next-largest : (c d : ℤ) → largest_of c d +ℤ pos 1 ≡ int_max (magnitude c) (magnitude d)
unfolding largest_of
next-largest c d = omega ints

pub largest-attained : (c d : ℤ) → (magnitude c ≡ largest_of c d +ℤ pos 1) ⊎ (magnitude d ≡ largest_of c d +ℤ pos 1)
largest-attained c d = rw (next-largest c d) (max-one (λ m. (magnitude c ≡ m) ⊎ (magnitude d ≡ m)) (magnitude c) (magnitude d) (inl refl) (inr refl))

-- the greater of the two ends' magnitudes less 1, as it is computed
pub largest-by-ends : (c d : ℤ) → int_max (magnitude c -ℤ pos 1) (magnitude d -ℤ pos 1) ≡ largest_of c d
unfolding largest_of
largest-by-ends c d = omega (ints, clamps)

pub ruleset largest_ends = (to_z-of_z, largest-by-ends)

pub largest-mono : {c d c' d' : ℤ} → Inside c d c' d' → largest_of c d ≤ℤ largest_of c' d'
unfolding largest_of
largest-mono i = omega (ints, clamps)

-- it is not negative where a divisor isn't 0, and only there
largest-not-negative : {c d y : ℤ} → Within c d y → (y ≡ pos 0 → ⊥) → pos 0 ≤ℤ largest_of c d
largest-not-negative {c} {d} {y} p n = omega (ints, largest-bounds c d y p)

pub only_zero : {c d : ℤ} → c ≡ pos 0 → d ≡ pos 0 → pos 0 ≤ℤ largest_of c d → ⊥
unfolding largest_of
only_zero e i z = omega (ints, clamps)

-- ---- the ends, without a test
abbrev pub lowest : ℤ → ℤ → ℤ
lowest a most = int_max (int_min a (pos 0)) (neg_ℤ most)

abbrev pub highest : ℤ → ℤ → ℤ
highest b most = int_min (int_max b (pos 0)) most

low-is : (a : ℤ) {most : ℤ} → pos 0 ≤ℤ most → remainder_low_of a most ≡ lowest a most
unfolding remainder_low_of
low-is a {most} h = lt_z-cases (λ z. z ≡ lowest a most) a (pos 0) (int_max a (neg_ℤ most)) (pos 0)
    (λ l. omega (ints, clamps))
    (λ l. omega (ints, clamps))

high_is : (b : ℤ) {most : ℤ} → pos 0 ≤ℤ most → remainder_high_of b most ≡ highest b most
unfolding remainder_high_of
high_is b {most} h = lt_z-cases (λ z. z ≡ highest b most) (pos 0) b (int_min b most) (pos 0)
    (λ l. omega (ints, clamps))
    (λ l. omega (ints, clamps))

-- 0 lies between them; they hold what lies from 0 to the dividend and from -most to most, and grow with both
pub ends-hold-zero : (a b : ℤ) {most : ℤ} → pos 0 ≤ℤ most → Within (lowest a most) (highest b most) (pos 0)
ends-hold-zero a b h = record { low = omega (ints, clamps); high = omega (ints, clamps) }

pub ends-hold : {a b x most z : ℤ} → Within a b x → Within (int_min x (pos 0)) (int_max x (pos 0)) z → Within (neg_ℤ most) most z → Within (lowest a most) (highest b most) z
ends-hold p t u = record { low = omega (ints, clamps); high = omega (ints, clamps) }

pub lowest-mono : {a a' most most' : ℤ} → a' ≤ℤ a → most ≤ℤ most' → lowest a' most' ≤ℤ lowest a most
lowest-mono h k = omega (ints, clamps)

pub highest-mono : {b b' most most' : ℤ} → b ≤ℤ b' → most ≤ℤ most' → highest b most ≤ℤ highest b' most'
highest-mono h k = omega (ints, clamps)

-- ---- the pair, by cases: the divisor is only 0, or D is not negative
pub remainders-cases :
    (P : Option Uncut → Type 0) (a b : ℤ) {c d : ℤ} → c ≤ℤ d → (c ≡ pos 0 → d ≡ pos 0 → P None) →
    (pos 0 ≤ℤ largest_of c d → P (pair (lowest a (largest_of c d)) (highest b (largest_of c d)))) → P (remainders_of a b c d)
unfolding remainders_of
remainders-cases P a b {c} {d} h f g = by (eq_z c (pos 0)) (eq_z d (pos 0)) refl refl
  where
    some : pos 0 ≤ℤ largest_of c d → P (pair (remainder_low_of a (largest_of c d)) (remainder_high_of b (largest_of c d)))
    some p = rw (low-is a p, high_is b p) (g p)

    by : (s t : Bool) → eq_z c (pos 0) ≡ s → eq_z d (pos 0) ≡ t → P (cond (s && t) None (pair (remainder_low_of a (largest_of c d)) (remainder_high_of b (largest_of c d))))
    by true true e i = f (eq_z-yes c (pos 0) e) (eq_z-yes d (pos 0) i)
    by true false e i = some (largest-not-negative (last h) (eq_z-no d (pos 0) i))
    by false t e i = some (largest-not-negative (first h) (eq_z-no c (pos 0) e))
