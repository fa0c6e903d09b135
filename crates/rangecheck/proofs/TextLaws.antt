-- The fewest digits that hold a number, as `io::decimal` gives them, are its decimal text.
-- Assumes nothing.
use Prim.Native.Nat.{ℕ, zero, suc, zero-le, ◌+◌, ◌-◌, ◌*◌, ◌/◌, ◌%◌, ◌^◌, ◌<◌, ◌≤◌}
use mathlib.Core.Path.{◌≡◌, refl, sym, subst}
use mathlib.Core.Bool.{Bool, true, false}
use native.Mathlib.Nat.{not-suc-le-zero, le_of_suc-le-suc, pow-suc, pow-le-pow_right}
use native.Mathlib.Omega.{arith}
use borrow.Author.Tests.{lt-ltb, le-ltb, leb-true, leb-false}
use lib.Dec.{leb}
use Rattle.io.specs.Digits.{hex_digit_ascii, last_digits, IsDigitCount}
use Rattle.rangecheck.specs.Text.{last_or, digits_in, decimal_of}

-- ---- digits
glyph-digit : (d : ℕ) → d < 10 → hex_digit_ascii d ≡ 48 + d
glyph-digit d h = rw (lt-ltb _ _ h)

suc-less-one : (k : ℕ) → suc k - 1 ≡ k
suc-less-one k = omega arith

-- a number of more than one digit is at least 10, and its tenth part has one digit less
tenth : (k n : ℕ) → IsDigitCount 10 1 n (suc (suc k)) → IsDigitCount 10 1 (n / 10) (suc k) × (10 ≤ n)
tenth k n h =
    let below : n < 10 ^ suc k * 10 = subst (λ (x : ℕ). n < x) (pow-suc 10 (suc k)) h.1 in
    let above : 10 ^ suc k ≤ n = subst (λ (j : ℕ). 10 ^ j ≤ n) (suc-less-one (suc k)) (h.2 (omega arith)) in
    let some : 10 ^ suc k ≡ 10 ^ k * 10 = pow-suc 10 k in
    let one : 10 ^ 0 ≤ 10 ^ k = pow-le-pow_right {n = 10} (omega arith) {i = 0} {j = k} zero-le in
    ((omega arith, omega arith, λ l. subst (λ (j : ℕ). 10 ^ j ≤ n / 10) (sym (suc-less-one k)) (omega arith)), omega arith)

fewest-digits : (k f n : ℕ) → k ≤ f → IsDigitCount 10 1 n k → last_digits 10 k n ≡ digits_in f n
unfolding digits_in last_or
fewest-digits zero f n l h = absurd (not-suc-le-zero h.0)
fewest-digits (suc k) zero n l h = absurd (not-suc-le-zero l)
fewest-digits (suc zero) (suc f) n l h = rw (lt-ltb n 10 h.1, glyph-digit (n % 10) (omega arith))
fewest-digits (suc (suc k)) (suc f) n l h =
    let t = tenth k n h in
    rw (le-ltb n 10 t.1, glyph-digit (n % 10) (omega arith), ← fewest-digits (suc k) f (n / 10) (le_of_suc-le-suc l) t.0)

few-by : (k n : ℕ) (t : Bool) → leb k 20 ≡ t → IsDigitCount 10 1 n k → n < 18446744073709551616 → k ≤ 20
few-by k n true e h b = leb-true k 20 e
few-by k n false e h b =
    let more : 20 < k = leb-false k 20 e in
    let p : 10 ^ 20 ≤ 10 ^ (k - 1) = pow-le-pow_right {n = 10} (omega arith) {i = 20} {j = k - 1} (omega arith) in
    let q : 10 ^ (k - 1) ≤ n = h.2 (omega arith) in
    absurd (omega arith)

-- a number below 2^64 has at most 20 digits
fewest-few : (k n : ℕ) → IsDigitCount 10 1 n k → n < 18446744073709551616 → k ≤ 20
fewest-few k n = few-by k n (leb k 20) refl

-- so the digits that `io::decimal` gives are the number's text
pub decimal_text : (k n : ℕ) → n < 18446744073709551616 → IsDigitCount 10 1 n k → last_digits 10 k n ≡ decimal_of n
decimal_text k n b h = fewest-digits k 20 n (fewest-few k n h b) h
