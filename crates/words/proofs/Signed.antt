-- Signed words: from what the code knows of a word's bits to the word, and to its number.
-- Assumes nothing.
use mathlib.Core.Path.{◌≡◌, refl, sym, subst}
use mathlib.Core.Bool.{Bool, true, false}
use Prim.Native.Nat.{◌<◌, ◌≤◌, ◌^◌}
use native.Mathlib.Omega.{arith}
use borrow.Author.Tests.{ltb-true, le-ltb}
use lib.Dec.{T}
use lib.IntN.{ℤ, pos, negsuc, nat_abs}
use lib.Signed.{mag, lt_z, non_neg}
use mir.Syntax.{w32, w64}
use mir.Val.{Fits, SFits, to_z, of_z}
use mir.Facts.{to_z-of_z}
use Rattle.words.specs.Words.{number_of}
use Rattle.words.proofs.Bools.{clash}

-- a signed argument or result is read back from its bits: from a call's `.ok`, or `.given` of a read
pub read_back : {z : ℤ} → mag z < 2147483648 → to_z w32 (of_z w32 z) ≡ z
read_back p = to_z-of_z {w = w32} (record { sfits = p })

-- the sign of a word, as the code tests it
sign : (z : ℤ) {t : Bool} → SFits w32 z → lt_z (to_z w32 (of_z w32 z)) (pos 0) ≡ t → lt_z z (pos 0) ≡ t
sign z {t} f e = subst (λ (y : ℤ). lt_z y (pos 0) ≡ t) (to_z-of_z f) e

below : (z : ℤ) → lt_z z (pos 0) ≡ true → 4294967295 ≡ number_of z
unfolding number_of
below (pos n) e = let l = ltb-true n 0 e in omega arith
below (negsuc n) e = refl

not-below : (z : ℤ) → lt_z z (pos 0) ≡ false → nat_abs z ≡ number_of z
unfolding number_of
not-below (pos n) e = refl
not-below (negsuc n) e = clash e

casts : (z : ℤ) → SFits w32 z → lt_z z (pos 0) ≡ false → T (non_neg z) × Fits w64 (nat_abs z)
casts (pos n) f e = let b : n < 2 ^ 31 = f.sfits in (tt, omega arith)
casts (negsuc n) f e = clash e

pub number-below : (z : ℤ) → SFits w32 z → lt_z (to_z w32 (of_z w32 z)) (pos 0) ≡ true → 4294967295 ≡ number_of z
number-below z f e = below z (sign z f e)

pub number-not-below : (z : ℤ) → SFits w32 z → lt_z (to_z w32 (of_z w32 z)) (pos 0) ≡ false → nat_abs (to_z w32 (of_z w32 z)) ≡ number_of z
number-not-below z f e = subst (λ (y : ℤ). nat_abs y ≡ number_of z) (sym (to_z-of_z f)) (not-below z (sign z f e))

pub number-casts : (z : ℤ) → SFits w32 z → lt_z (to_z w32 (of_z w32 z)) (pos 0) ≡ false → T (non_neg (to_z w32 (of_z w32 z))) × Fits w64 (nat_abs (to_z w32 (of_z w32 z)))
number-casts z f e = subst (λ (y : ℤ). T (non_neg y) × Fits w64 (nat_abs y)) (sym (to_z-of_z f)) (casts z f (sign z f e))

-- every number of a word that fits is below 2 ^ 32
pub number_bound : (z : ℤ) → SFits w32 z → number_of z ≤ 4294967295
unfolding number_of
number_bound (pos n) f = let b : n < 2 ^ 31 = f.sfits in omega arith
number_bound (negsuc n) f = omega arith

-- a word whose number isn't that of the negative ones isn't negative
not_negative : (z : ℤ) → number_of z < 4294967295 → lt_z z (pos 0) ≡ false
unfolding number_of
not_negative (pos n) l = le-ltb n 0 (omega arith)
not_negative (negsuc n) l = absurd (omega arith)

pub natural-is : (z : ℤ) → SFits w32 z → number_of z < 4294967295 → nat_abs (to_z w32 (of_z w32 z)) ≡ number_of z
natural-is z f l = rw (to_z-of_z f) (not-below z (not_negative z l))

pub natural_casts : (z : ℤ) → SFits w32 z → number_of z < 4294967295 → T (non_neg (to_z w32 (of_z w32 z))) × Fits w64 (nat_abs (to_z w32 (of_z w32 z)))
natural_casts z f l = rw (to_z-of_z f) (casts z f (not_negative z l))
