-- Numbers that fit a width, as the code tests, hands on and reads back their bits.
-- Assumes nothing.
use Prim.Native.Nat.{◌^◌, ◌<◌}
use mathlib.Core.Path.{◌≡◌, refl, sym, ap, ◌∙◌}
use mathlib.Core.Bool.{Bool, true, false}
use lib.Dec.{eqb}
use lib.IntN.{ℤ}
use lib.Signed.{mag, le_z, ◌≤ℤ◌}
use borrow.Author.Tests.{eqb-true, eq-eqb}
use mir.Syntax.{Width, w32, w64}
use mir.Val.{SFits, hbits, to_z, of_z}
use Rattle.std.proofs.lemmas.Int.{to_z-of_z}
use Rattle.interval.specs.Integer.{eq_z}
use Rattle.interval.specs.Interval.{least, greatest}
use Rattle.interval.proofs.IntegerLaws.{ints, eq_z-yes, eq_z-true}

-- a number that was handed on by its bits, read back
pub ruleset read_back = (to_z-of_z)

-- what lies from the least to the greatest i32 fits it
pub fits32 : (z : ℤ) → least ≤ℤ z → z ≤ℤ greatest → SFits w32 z
fits32 z h k = omega ints

-- what a call's result is known to fit
pub ok64 : (z : ℤ) → mag z < 2 ^ hbits w64 → SFits w64 z
ok64 z h = record { sfits = h }

-- what a test of two i32 says of the numbers
pub le32 : {a b : ℤ} {t : Bool} → SFits w32 a → SFits w32 b → le_z (to_z w32 (of_z w32 a)) (to_z w32 (of_z w32 b)) ≡ t → le_z a b ≡ t
le32 f g e = simp to_z-of_z at e

-- equal bits are equal numbers: what a test `a == b` that held says
pub bits-eq : {w : Width} {a b : ℤ} → SFits w a → SFits w b → of_z w a ≡ of_z w b → a ≡ b
bits-eq {w} {a} {b} f g e = sym (to_z-of_z w a f) ∙ ap (to_z w) e ∙ to_z-of_z w b g

pub same_truth : (s t : Bool) → (s ≡ true → t ≡ true) → (t ≡ true → s ≡ true) → s ≡ t
same_truth true t f g = sym (f refl)
same_truth false true f g = g refl
same_truth false false f g = refl

-- the flag `a == b`
pub eqb-bits : {w : Width} {a b : ℤ} → SFits w a → SFits w b → eqb (of_z w a) (of_z w b) ≡ eq_z a b
eqb-bits {w} {a} {b} f g = same_truth _ _ (λ e. eq_z-true (bits-eq f g (eqb-true _ _ e))) (λ e. eq-eqb _ _ (ap (of_z w) (eq_z-yes a b e)))

-- f of two numbers handed on as their bits, and its result read back from its own
pub through-bits : (f : ℤ → ℤ → ℤ) {w : Width} {a b r : ℤ} → SFits w a → SFits w b → SFits w r → r ≡ f (to_z w (of_z w a)) (to_z w (of_z w b)) → to_z w (of_z w r) ≡ f a b
through-bits f {w} {r} p q h e = to_z-of_z w r h ∙ simp to_z-of_z at e
