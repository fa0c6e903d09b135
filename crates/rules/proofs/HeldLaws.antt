-- Sets of mutexes as the machine computes them.
--     shl_is        `1 << m`
--     has-le        a set that has m is at least 2 ^ m
--     mask_is       `(s % 256) & r == 0`, for the eight mutexes that a table can have
-- Assumes nothing.
use Prim.Native.Nat.{ℕ, zero, suc, ◌+◌, ◌-◌, ◌*◌, ◌/◌, ◌%◌, ◌^◌, ◌<◌, ◌≤◌, min}
use mathlib.Core.Path.{◌≡◌, refl, sym, ap, subst, ◌∙◌}
use mathlib.Core.Bool.{Bool, true, not, ◌&&◌}
use native.Mathlib.Nat.{mod-lt, pow-suc, zero-div, one-mul, div-mul-le_self, mul-le-mul_right}
use native.Mathlib.Numerals.{one-add}
use native.Mathlib.Omega.{arith}
use borrow.Author.Tests.{eqb-true, eq-eqb}
use lib.Dec.{eqb, lit<}
use lib.Bits.{bit_and, and_step, and_zero_l, and_shr}
use lib.Pow.{shl_exact, shr-shr, field, mod-mod-pow}
use Rattle.words.proofs.FirstLaws.{each-all_below, all_below-each}
use Rattle.interval.proofs.Machine.{same_truth}
use Rattle.rules.specs.Held.{has_of, disjoint_of}

-- for m up to the number of mutexes
pub shl_is : (m : ℕ) → m ≤ 8 → 1 * 2 ^ m % 2 ^ 64 ≡ 2 ^ m
shl_is m l = shl_exact 1 m 64 (omega arith) (omega arith) ∙ one-mul (2 ^ m)

pub has-le : (s m : ℕ) → has_of s m ≡ true → 2 ^ m ≤ s
has-le s m e =
    let o : s / 2 ^ m % 2 ≡ 1 = eqb-true _ 1 e in
    omega (arith, div-mul-le_self s (2 ^ m), mul-le-mul_right {m = 1} {n = s / 2 ^ m} (2 ^ m) (omega arith))

-- ---- a mask that is clear
-- of two bits not both are 1: their minimum is 0
not-both : (x y : ℕ) → x < 2 → y < 2 → not (eqb x 1 && eqb y 1) ≡ true → min x y ≡ 0
not-both zero y hx hy e = omega arith
not-both (suc zero) zero hx hy e = refl
not-both (suc zero) (suc zero) hx hy e = let z : ◌≡◌ {A = ℕ} 0 1 = cc in absurd (omega arith)
not-both (suc zero) (suc (suc y)) hx hy e = absurd (omega arith)
not-both (suc (suc x)) y hx hy e = absurd (omega arith)

both-not : (x y : ℕ) → x < 2 → y < 2 → min x y ≡ 0 → not (eqb x 1 && eqb y 1) ≡ true
both-not zero y hx hy e = refl
both-not (suc zero) zero hx hy e = refl
both-not (suc zero) (suc zero) hx hy e = absurd (omega arith)
both-not (suc zero) (suc (suc y)) hx hy e = absurd (omega arith)
both-not (suc (suc x)) y hx hy e = absurd (omega arith)

two : (n : ℕ) → n % 2 < 2
two n = mod-lt n (lit< tt)

-- a clear mask: no bit is in both
clear-bits : (a b : ℕ) → bit_and a b ≡ 0 → (m : ℕ) → not (has_of a m && has_of b m) ≡ true
clear-bits a b e m =
    let s = and_shr a b m in
    let u = and_step (a / 2 ^ m) (b / 2 ^ m) in
    let z : bit_and (a / 2 ^ m) (b / 2 ^ m) ≡ 0 = sym s ∙ rw e (zero-div (2 ^ m)) in
    both-not (a / 2 ^ m % 2) (b / 2 ^ m % 2) (two (a / 2 ^ m)) (two (b / 2 ^ m)) (omega arith)

has-half : (s m : ℕ) → has_of (s / 2) m ≡ has_of s (suc m)
has-half s m = ap (λ (x : ℕ). eqb (x % 2) 1) (shr-shr s 1 m ∙ ap (λ (k : ℕ). s / 2 ^ k) (one-add m))

-- no bit below n is in both, and a has n bits: the mask is clear
bits-clear : (n a b : ℕ) → a < 2 ^ n → ((m : ℕ) → m < n → not (has_of a m && has_of b m) ≡ true) → bit_and a b ≡ 0
bits-clear zero a b h f = let e : a ≡ 0 = omega arith in rw e (and_zero_l b)
bits-clear (suc n) a b h f =
    let p = pow-suc 2 n in
    let r = bits-clear n (a / 2) (b / 2) (omega arith) (λ m l. rw (has-half a m, has-half b m) (f (suc m) (omega arith))) in
    let z = not-both (a / 1 % 2) (b / 1 % 2) (two (a / 1)) (two (b / 1)) (f 0 (omega arith)) in
    omega (arith, and_step a b)

-- the low eight bits of a set say which of the first eight it has
has-low : (s m : ℕ) → m < 8 → has_of (s % 2 ^ 8) m ≡ has_of s m
has-low s m l =
    let e : 7 - m + 1 + m ≡ 8 = omega arith in
    let bit : s % 2 ^ (7 - m + 1 + m) / 2 ^ m % 2 ≡ s / 2 ^ m % 2 =
    ap (λ (x : ℕ). x % 2) (field s (7 - m + 1) m) ∙ mod-mod-pow (s / 2 ^ m) (7 - m) 1 in
    ap (λ (x : ℕ). eqb x 1) (subst (λ (k : ℕ). s % 2 ^ k / 2 ^ m % 2 ≡ s / 2 ^ m % 2) e bit)

module _ (s r : ℕ) where
  low-is : (m : ℕ) → m < 8 → not (has_of (s % 2 ^ 8) m && has_of r m) ≡ not (has_of s m && has_of r m)
  low-is m l = ap (λ (x : Bool). not (x && has_of r m)) (has-low s m l)

  pub mask_is : eqb (bit_and (s % 2 ^ 8) r) 0 ≡ disjoint_of s r
  mask_is =
      same_truth _ _
      (λ e. each-all_below _ 8 (λ m l. sym (low-is m l) ∙ clear-bits (s % 2 ^ 8) r (eqb-true _ 0 e) m))
      (λ e. eq-eqb _ 0 (bits-clear 8 (s % 2 ^ 8) r (mod-lt s (lit< tt)) (λ m l. low-is m l ∙ all_below-each _ 8 e m l)))
