-- The smallest failing place, and tests at every place and at some place.
-- A loop that looks for the first place below n at which a test f fails has the invariant `Searched f n k`, k the loop's counter, and the measure n - k:
--     start         where the loop begins
--     next          the test holds at k: the invariant at k + 1
--     stop          the test fails at k: what the loop's `return` gives
--     done          k has come to n: what is given after the loop
-- An inner loop that tests each index has the invariant `Checked f n k`, with `check`, `checks`, `checked` for the same places, and `fails-at` for its exit.
-- Assumes nothing.
use Prim.Native.Nat.{ℕ, zero, suc, ◌+◌, ◌<◌, ◌≤◌, zero-le}
use mathlib.Core.Path.{◌≡◌, refl, sym, ap, subst, ◌∙◌}
use mathlib.Core.Bool.{Bool, true, false, ◌&&◌, ◌||◌}
use mathlib.Core.Logic.{⊎_elim}
use native.Mathlib.Nat.{not-suc-le-zero, eq-or-lt_of_le, le_of_suc-le-suc, le_antisymm}
use native.Mathlib.Numerals.{add-one}
use native.Mathlib.Omega.{arith}
use Rattle.std.specs.Prelude.{Option, None, Some}
use Rattle.words.specs.First.{first_bad, or_else, unless, all_below, some_below}
use Rattle.words.specs.Laws.{Smallest}
use Rattle.words.proofs.Bools.{clash, and-true, and_left, and_right, and-false, or_left, or_right}

none_more : (f : ℕ → Bool) (k : ℕ) → first_bad f k ≡ None → f k ≡ true → first_bad f (k + 1) ≡ None
unfolding first_bad or_else unless
none_more f k p q = rw (add-one, p, q)

here : (f : ℕ → Bool) (k : ℕ) → first_bad f k ≡ None → f k ≡ false → first_bad f (suc k) ≡ Some k
unfolding first_bad or_else unless
here f k p q = rw (p, q)

found : (f : ℕ → Bool) (n k : ℕ) → k < n → first_bad f k ≡ None → f k ≡ false → first_bad f n ≡ Some k
unfolding first_bad or_else unless
found f zero k l p q = absurd (not-suc-le-zero l)
found f (suc n) k l p q =
    ⊎_elim (λ e. subst (λ (j : ℕ). first_bad f (suc j) ≡ Some k) e (here f k p q)) (λ lt. ap (λ (r : Option ℕ). or_else r (unless (f n) n)) (found f n k lt p q))
    (eq-or-lt_of_le (le_of_suc-le-suc l))

pub record Searched (f : ℕ → Bool) (n k : ℕ) : Type 0 where
  pub within : k ≤ n
  pub none : first_bad f k ≡ None

pub start : {f : ℕ → Bool} {n : ℕ} → Searched f n 0
unfolding first_bad or_else unless
start = record { within = zero-le; none = refl }

pub next : {f : ℕ → Bool} {n k : ℕ} → Searched f n k → k < n → f k ≡ true → Searched f n (k + 1)
next {f} {n} {k} s l q = record { within = omega arith; none = none_more f k s.none q }

pub stop : {f : ℕ → Bool} {n k : ℕ} → Searched f n k → k < n → f k ≡ false → Some k ≡ first_bad f n
stop {f} {n} {k} s l q = sym (found f n k l s.none q)

pub done : {f : ℕ → Bool} {n k : ℕ} → Searched f n k → n ≤ k → None ≡ first_bad f n
done {f} {n} {k} s l = sym (subst (λ (j : ℕ). first_bad f j ≡ None) (le_antisymm s.within l) s.none)

-- two answers in a row that are nothing: each is
first-nothing : (a b : Option ℕ) → or_else a b ≡ None → a ≡ None
unfolding or_else
first-nothing None b e = refl
first-nothing (Some p) b e = e

then-nothing : (a b : Option ℕ) → or_else a b ≡ None → b ≡ None
unfolding or_else
then-nothing None b e = e
then-nothing (Some p) b e = let z : ◌≡◌ {A = ℕ} 0 1 = cc in absurd (omega arith)

pub unless-nothing : (b : Bool) (p : ℕ) → unless b p ≡ None → b ≡ true
unfolding unless
unless-nothing true p e = refl
unless-nothing false p e = let z : ◌≡◌ {A = ℕ} 0 1 = cc in absurd (omega arith)

pub first_bad-none : (f : ℕ → Bool) (n : ℕ) → first_bad f n ≡ None → (k : ℕ) → k < n → f k ≡ true
unfolding first_bad or_else unless
first_bad-none f zero e k l = absurd (not-suc-le-zero l)
first_bad-none f (suc n) e k l =
    ⊎_elim (λ q. subst (λ (j : ℕ). f j ≡ true) (sym q) (unless-nothing (f n) n (then-nothing (first_bad f n) (unless (f n) n) e)))
    (λ lt. first_bad-none f n (first-nothing (first_bad f n) (unless (f n) n) e) k lt)
    (eq-or-lt_of_le (le_of_suc-le-suc l))

-- ---- `all_below`: a test holds at each index
pub all_below-same : (f g : ℕ → Bool) (n : ℕ) → ((i : ℕ) → i < n → f i ≡ g i) → all_below f n ≡ all_below g n
unfolding all_below
all_below-same f g zero h = refl
all_below-same f g (suc n) h = rw (all_below-same f g n (λ i l. h i (omega arith)), h n (omega arith)) refl

pub each-all_below : (f : ℕ → Bool) (n : ℕ) → ((k : ℕ) → k < n → f k ≡ true) → all_below f n ≡ true
unfolding all_below
each-all_below f zero h = refl
each-all_below f (suc n) h = and-true (each-all_below f n (λ k l. h k (omega arith))) (h n (omega arith))

pub all_below-each : (f : ℕ → Bool) (n : ℕ) → all_below f n ≡ true → (k : ℕ) → k < n → f k ≡ true
unfolding all_below
all_below-each f zero e k l = absurd (not-suc-le-zero l)
all_below-each f (suc n) e k l =
    ⊎_elim (λ q. subst (λ (j : ℕ). f j ≡ true) (sym q) (and_right (all_below f n) (f n) e)) (λ lt. all_below-each f n (and_left (all_below f n) (f n) e) k lt)
    (eq-or-lt_of_le (le_of_suc-le-suc l))

-- one index at which the test fails
pub fails-at : (f : ℕ → Bool) (n k : ℕ) → k < n → f k ≡ false → all_below f n ≡ false
unfolding all_below
fails-at f zero k l q = absurd (not-suc-le-zero l)
fails-at f (suc n) k l q =
    ⊎_elim (λ e. rw (subst (λ (j : ℕ). f j ≡ false) e q) (and-false (all_below f n))) (λ lt. ap (λ (r : Bool). r && f n) (fails-at f n k lt q))
    (eq-or-lt_of_le (le_of_suc-le-suc l))

pub record Checked (f : ℕ → Bool) (n k : ℕ) : Type 0 where
  pub within : k ≤ n
  pub all : all_below f k ≡ true

pub check : {f : ℕ → Bool} {n : ℕ} → Checked f n 0
unfolding all_below
check = record { within = zero-le; all = refl }

all_more : (f : ℕ → Bool) (k : ℕ) → all_below f k ≡ true → f k ≡ true → all_below f (k + 1) ≡ true
unfolding all_below
all_more f k p q = rw (add-one, p, q)

pub checks : {f : ℕ → Bool} {n k : ℕ} → Checked f n k → k < n → f k ≡ true → Checked f n (k + 1)
checks {f} {n} {k} s l q = record { within = omega arith; all = all_more f k s.all q }

pub checked : {f : ℕ → Bool} {n k : ℕ} → Checked f n k → n ≤ k → all_below f n ≡ true
checked {f} {n} {k} s l = subst (λ (j : ℕ). all_below f j ≡ true) (le_antisymm s.within l) s.all

-- ---- what `first_bad` is: the place is below n, fails, and nothing before it does; and there is no other answer
pub none-first_bad : (f : ℕ → Bool) (k : ℕ) → ((j : ℕ) → j < k → f j ≡ true) → first_bad f k ≡ None
unfolding first_bad or_else unless
none-first_bad f zero h = refl
none-first_bad f (suc k) h = rw (none-first_bad f k (λ j l. h j (omega arith)), h k (omega arith))

pub smallest-first_bad : (f : ℕ → Bool) (n k : ℕ) → Smallest f n k → first_bad f n ≡ Some k
smallest-first_bad f n k s = found f n k s.below (none-first_bad f k s.earlier) s.fails

at-inj : {j k : ℕ} → Some j ≡ Some k → j ≡ k
at-inj e = cc

first_bad-smallest-by : (f : ℕ → Bool) (n k : ℕ) (a : Option ℕ) (b : Bool) → first_bad f n ≡ a → f n ≡ b → ((k : ℕ) → first_bad f n ≡ Some k → Smallest f n k) → or_else a (unless b n) ≡ Some k → Smallest f (suc n) k
unfolding or_else unless
first_bad-smallest-by f n k None true ea eb ih e = let z : ◌≡◌ {A = ℕ} 0 1 = cc in absurd (omega arith)
first_bad-smallest-by f n k None false ea eb ih e =
    let q : n ≡ k = at-inj e in
    record { below = omega arith; fails = subst (λ (j : ℕ). f j ≡ false) q eb; earlier = subst (λ (m : ℕ). (j : ℕ) → j < m → f j ≡ true) q (first_bad-none f n ea) }
first_bad-smallest-by f n k (Some p) b ea eb ih e =
    let s = ih k (ea ∙ e) in
    record { below = omega (arith, s.below); fails = s.fails; earlier = s.earlier }

pub first_bad-smallest : (f : ℕ → Bool) (n k : ℕ) → first_bad f n ≡ Some k → Smallest f n k
unfolding first_bad
first_bad-smallest f zero k e = let z : ◌≡◌ {A = ℕ} 0 1 = cc in absurd (omega arith)
first_bad-smallest f (suc n) k e = first_bad-smallest-by f n k (first_bad f n) (f n) refl refl (λ j q. first_bad-smallest f n j q) e

-- ---- `some_below`: a test holds at some index
some_or : (a b : Bool) → a || b ≡ true → (a ≡ false → b ≡ true)
some_or true b e f = clash f
some_or false b e f = e

pub one-some_below : (f : ℕ → Bool) (n k : ℕ) → k < n → f k ≡ true → some_below f n ≡ true
unfolding some_below
one-some_below f zero k l q = absurd (not-suc-le-zero l)
one-some_below f (suc n) k l q =
    ⊎_elim (λ e. or_right (some_below f n) (subst (λ (j : ℕ). f j ≡ true) e q)) (λ lt. or_left (f n) (one-some_below f n k lt q))
    (eq-or-lt_of_le (le_of_suc-le-suc l))

pub some_below-one : (f : ℕ → Bool) (n : ℕ) → some_below f n ≡ true → (k : ℕ) × (k < n) × (f k ≡ true)
unfolding some_below
some_below-one f zero e = clash (sym e)
some_below-one f (suc n) e = by (some_below f n) refl (λ p. some_below-one f n p)
  where
    by : (t : Bool) → some_below f n ≡ t → (some_below f n ≡ true → (k : ℕ) × (k < n) × (f k ≡ true)) → (k : ℕ) × (k < suc n) × (f k ≡ true)
    by true p ih = let s = ih p in (s.0, omega (arith, s.1), s.2)
    by false p ih = (n, omega arith, some_or (some_below f n) (f n) e p)
