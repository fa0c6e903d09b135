-- What `with_of` and `without_of` do to each mutex of a set, and how large a set is.
--     has-with, has-without                   m is there; it is not
--     has-with-other, has-without-other       every other mutex is as it was
--     with-set, without-set                   of n mutexes it is still a set
-- Assumes nothing.
use Prim.Native.Nat.{ℕ, ◌+◌, ◌-◌, ◌*◌, ◌/◌, ◌%◌, ◌^◌, ◌<◌, ◌≤◌}
use mathlib.Core.Path.{◌≡◌, refl, sym, ap, subst, ◌∙◌}
use mathlib.Core.Bool.{Bool, true, false, cond}
use native.Mathlib.Nat.{add-mul-div_right, one-mul, pow-suc, div-add-mod', mul-le-mul_right, pow-le-pow_right, div-eq_of_lt, div-lt_iff_lt-mul, zero-div}
use native.Mathlib.Numerals.{one-add}
use native.Mathlib.Decide.{dec_lt}
use native.Mathlib.Omega.{arith}
use borrow.Author.Tests.{eqb-true, eqb-false, eq-eqb, ne_eqb}
use lib.Dec.{eqb}
use lib.Pow.{pow_pos, pow-add, shr-shr}
use Rattle.rules.specs.Held.{has_of, with_of, without_of}

-- ---- one mutex more: 2 ^ m added to a set s without m
even : (q : ℕ) → eqb (q % 2) 1 ≡ false → q % 2 ≡ 0
even q e = let h : q % 2 ≡ 1 → ⊥ = eqb-false (q % 2) 1 e in omega arith

-- one block of 2 ^ m more
block : (s m : ℕ) → (s + 2 ^ m) / 2 ^ m ≡ s / 2 ^ m + 1
block s m = ap (λ (x : ℕ). (s + x) / 2 ^ m) (sym (one-mul (2 ^ m))) ∙ add-mul-div_right s 1 (pow_pos m)

-- an even number and the next one, shifted by one or more
even-shr : (q d : ℕ) → q % 2 ≡ 0 → (q + 1) / 2 ^ (1 + d) ≡ q / 2 ^ (1 + d)
even-shr q d e = let h : (q + 1) / 2 ≡ q / 2 = omega arith in sym (shr-shr (q + 1) 1 d) ∙ ap (λ (x : ℕ). x / 2 ^ d) h ∙ shr-shr q 1 d

-- a higher bit, and a lower one
higher : (s m d : ℕ) → s / 2 ^ m % 2 ≡ 0 → (s + 2 ^ m) / 2 ^ (m + (1 + d)) ≡ s / 2 ^ (m + (1 + d))
higher s m d e =
    sym (shr-shr (s + 2 ^ m) m (1 + d)) ∙ ap (λ (x : ℕ). x / 2 ^ (1 + d)) (block s m) ∙ even-shr (s / 2 ^ m) d e ∙ shr-shr s m (1 + d)

lower : (s k d : ℕ) → (s + 2 ^ (1 + d + k)) / 2 ^ k % 2 ≡ s / 2 ^ k % 2
lower s k d =
    let e : (s + 2 ^ (1 + d + k)) / 2 ^ k ≡ s / 2 ^ k + 2 ^ (1 + d) =
    ap (λ (x : ℕ). (s + x) / 2 ^ k) (pow-add 2 (1 + d) k) ∙ add-mul-div_right s (2 ^ (1 + d)) (pow_pos k) in
    let p : 2 ^ (1 + d) ≡ 2 ^ d * 2 = ap (λ (x : ℕ). 2 ^ x) (one-add d) ∙ pow-suc 2 d in
    omega arith

other : (s m k : ℕ) → (k ≡ m → ⊥) → s / 2 ^ m % 2 ≡ 0 → (s + 2 ^ m) / 2 ^ k % 2 ≡ s / 2 ^ k % 2
other s m k d e = by (dec_lt m k)
  where
    by : Dec (m < k) → (s + 2 ^ m) / 2 ^ k % 2 ≡ s / 2 ^ k % 2
    by (yes l) =
        let q : m + (1 + (k - (m + 1))) ≡ k = omega arith in
        subst (λ (x : ℕ). (s + 2 ^ m) / 2 ^ x % 2 ≡ s / 2 ^ x % 2) q (ap (λ (x : ℕ). x % 2) (higher s m (k - (m + 1)) e))
    by (no l) =
        let q : 1 + (m - (k + 1)) + k ≡ m = omega arith in
        subst (λ (x : ℕ). (s + 2 ^ x) / 2 ^ k % 2 ≡ s / 2 ^ k % 2) q (lower s k (m - (k + 1)))

pub has-with : (s m : ℕ) → has_of (with_of s m) m ≡ true
has-with s m = by (has_of s m) refl
  where
    by : (b : Bool) → has_of s m ≡ b → has_of (cond b s (s + 2 ^ m)) m ≡ true
    by true e = e
    by false e = let h = even (s / 2 ^ m) e in let q : (s + 2 ^ m) / 2 ^ m % 2 ≡ 1 = omega (arith, block s m) in eq-eqb _ _ q

pub has-with-other : (s m k : ℕ) → (k ≡ m → ⊥) → has_of (with_of s m) k ≡ has_of s k
has-with-other s m k d = by (has_of s m) refl
  where
    by : (b : Bool) → has_of s m ≡ b → has_of (cond b s (s + 2 ^ m)) k ≡ has_of s k
    by true e = refl
    by false e = ap (λ (x : ℕ). eqb x 1) (other s m k d (even (s / 2 ^ m) e))

-- ---- one mutex less: 2 ^ m taken from a set s that has m
module _ (s m : ℕ) (e : has_of s m ≡ true) where
  at_least : 2 ^ m ≤ s
  at_least =
      let o = eqb-true (s / 2 ^ m % 2) 1 e in
      let q : 1 ≤ s / 2 ^ m = omega arith in
      omega (arith, div-add-mod' s (2 ^ m), mul-le-mul_right (2 ^ m) q, one-mul (2 ^ m))

  back : s - 2 ^ m + 2 ^ m ≡ s
  back = omega (arith, at_least)

  clear : (s - 2 ^ m) / 2 ^ m % 2 ≡ 0
  clear =
      let o = eqb-true (s / 2 ^ m % 2) 1 e in
      let b : s / 2 ^ m ≡ (s - 2 ^ m) / 2 ^ m + 1 = ap (λ (x : ℕ). x / 2 ^ m) (sym back) ∙ block (s - 2 ^ m) m in
      omega arith

  same-other : (k : ℕ) → (k ≡ m → ⊥) → (s - 2 ^ m) / 2 ^ k % 2 ≡ s / 2 ^ k % 2
  same-other k d = sym (other (s - 2 ^ m) m k d clear) ∙ ap (λ (x : ℕ). x / 2 ^ k % 2) back

pub has-without : (s m : ℕ) → has_of (without_of s m) m ≡ false
has-without s m = by (has_of s m) refl
  where
    by : (b : Bool) → has_of s m ≡ b → has_of (cond b (s - 2 ^ m) s) m ≡ false
    by true e = let z = clear s m e in ne_eqb ((s - 2 ^ m) / 2 ^ m % 2) 1 (λ q. omega arith)
    by false e = e

pub has-without-other : (s m k : ℕ) → (k ≡ m → ⊥) → has_of (without_of s m) k ≡ has_of s k
has-without-other s m k d = by (has_of s m) refl
  where
    by : (b : Bool) → has_of s m ≡ b → has_of (cond b (s - 2 ^ m) s) k ≡ has_of s k
    by true e = ap (λ (x : ℕ). eqb x 1) (same-other s m e k d)
    by false e = refl

-- ---- how large a set is
-- a set of n mutexes names none past them
pub has-past : (s n m : ℕ) → s < 2 ^ n → n ≤ m → has_of s m ≡ false
has-past s n m h l =
    let p : 2 ^ n ≤ 2 ^ m = pow-le-pow_right (omega arith) l in
    let z : s / 2 ^ m ≡ 0 = div-eq_of_lt (omega arith) in
    rw z

pub has-none : (m : ℕ) → has_of 0 m ≡ false
has-none m = ap (λ (x : ℕ). eqb (x % 2) 1) (zero-div (2 ^ m))

-- and with one more or one less of them it is still one of n
added-set : (s m n : ℕ) → s < 2 ^ n → m < n → has_of s m ≡ false → s + 2 ^ m < 2 ^ n
added-set s m n h l e =
    let q : m + (1 + (n - (m + 1))) ≡ n = omega arith in
    let z : (s + 2 ^ m) / 2 ^ n ≡ 0 = subst (λ (x : ℕ). (s + 2 ^ m) / 2 ^ x ≡ s / 2 ^ x) q (higher s m (n - (m + 1)) (even (s / 2 ^ m) e)) ∙ div-eq_of_lt h in
    let one : (s + 2 ^ m) / 2 ^ n < 1 = omega arith in
    omega (arith, (div-lt_iff_lt-mul {k = 2 ^ n} {x = s + 2 ^ m} {y = 1} (pow_pos n)).0 one, one-mul (2 ^ n))

pub with-set : (s m n : ℕ) → s < 2 ^ n → m < n → with_of s m < 2 ^ n
with-set s m n h l = by (has_of s m) refl
  where
    by : (b : Bool) → has_of s m ≡ b → cond b s (s + 2 ^ m) < 2 ^ n
    by true e = h
    by false e = added-set s m n h l e

pub without-set : (s m n : ℕ) → s < 2 ^ n → without_of s m < 2 ^ n
without-set s m n h = by (has_of s m)
  where
    by : (b : Bool) → cond b (s - 2 ^ m) s < 2 ^ n
    by true = omega arith
    by false = h

-- a set of at most eight mutexes is below 256, so that no set that an outcome brings is the number of -1
pub few-small : (n : ℕ) → n ≤ 8 → 2 ^ n ≤ 256
few-small n h = pow-le-pow_right (omega arith) h

pub with-small : (s m : ℕ) → s < 256 → m < 8 → with_of s m < 512
with-small s m h l = by (has_of s m)
  where
    by : (b : Bool) → cond b s (s + 2 ^ m) < 512
    by true = omega arith
    by false = omega (arith, few-small m (omega arith))

pub without-small : (s m : ℕ) → s < 256 → without_of s m < 512
without-small s m h = by (has_of s m)
  where
    by : (b : Bool) → cond b (s - 2 ^ m) s < 512
    by true = omega arith
    by false = omega arith
