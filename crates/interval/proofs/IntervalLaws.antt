-- Going under `on_ends`, by which every operation on intervals is made: where the interval holds a number, by cases, and where it is known as it
-- is taken.
-- Assumes nothing.
use Prim.Native.Nat.{ℕ}
use mathlib.Core.Path.{◌≡◌, refl, ap, ◌∙◌}
use mathlib.Core.Bool.{Bool, true, false, cond, ◌&&◌}
use native.Mathlib.Omega.{arith}
use lib.IntN.{ℤ}
use lib.Signed.{le_z, ◌≤ℤ◌, ≤ℤ_refl}
use Rattle.interval.specs.Interval.{on_ends, on_both, from_to, taken_of, Within, Holds, span}
use Rattle.interval.specs.declared.Interval.{Interval}
use Rattle.interval.proofs.IntegerLaws.{ints, ≤_trans, le-true, le_z-yes', le_z-cases, and_left, and_right}
use Rattle.std.specs.Prelude.{None, Option, Some}

-- ---- the numbers from lo to hi
pub first : {a b : ℤ} → a ≤ℤ b → Within a b a
first {a} h = record { low = ≤ℤ_refl a; high = h }

pub last : {a b : ℤ} → a ≤ℤ b → Within a b b
last {b} h = record { low = h; high = ≤ℤ_refl b }

pub ordered : {a b x : ℤ} → Within a b x → a ≤ℤ b
ordered p = ≤_trans p.low p.high

-- from its test
pub test-within : (lo hi z : ℤ) → le_z lo z && le_z z hi ≡ true → Within lo hi z
test-within lo hi z e = record { low = le_z-yes' lo z (and_left (le_z lo z) (le_z z hi) e); high = le_z-yes' z hi (and_right (le_z lo z) (le_z z hi) e) }

pub widen : {a b c d x : ℤ} → c ≤ℤ a → b ≤ℤ d → Within a b x → Within c d x
widen h k p = record { low = ≤_trans h p.low; high = ≤_trans p.high k }

-- a..b holds a number, and lies within c..d
pub record Inside (a b c d : ℤ) : Type 0 where
  pub ordered : a ≤ℤ b
  pub low : c ≤ℤ a
  pub high : b ≤ℤ d

pub inside : {a b c d x : ℤ} → Inside a b c d → Within a b x → Within c d x
inside i p = widen i.low i.high p

-- a number as an interval of its own
pub single-inside : {a b x : ℤ} → Within a b x → Inside x x a b
single-inside {x} p = record { ordered = ≤ℤ_refl x; low = p.low; high = p.high }

-- what lies within a single number is that number
pub inside-single : {a b c d : ℤ} → Inside a b c d → c ≡ d → (a ≡ c) × (b ≡ c)
inside-single i e = (omega ints, omega ints)

-- ---- under `on_ends`
-- where the interval holds a number
pub on_ends-holds : {A : Type 0} (P : A → Type 0) (n : A) (f : ℤ → ℤ → A) (r : Option Interval) (x : ℤ) → Holds r x → ((a b : ℤ) → Within a b x → P (f a b)) → P (on_ends n f r)
unfolding on_ends
on_ends-holds P n f None x h g = absurd h
on_ends-holds P n f (Some e) x h g = rw (le-true (ordered h)) (g e.low e.high h)

pub on_both-holds : {A : Type 0} (P : A → Type 0) (n : A) (f : ℤ → ℤ → ℤ → ℤ → A) (r s : Option Interval) (x y : ℤ) → Holds r x → Holds s y → ((a b c d : ℤ) → Within a b x → Within c d y → P (f a b c d)) → P (on_both n f r s)
on_both-holds P n f r s x y h k g = on_ends-holds P n _ r x h (λ a b p. on_ends-holds P n _ s y k (λ c d q. g a b c d p q))

-- by cases: it is none, or has ends in their order
pub on_ends-cases : {A : Type 0} (P : A → Type 0) (n : A) (f : ℤ → ℤ → A) (r : Option Interval) → P n → ((a b : ℤ) → a ≤ℤ b → r ≡ span a b → P (f a b)) → P (on_ends n f r)
unfolding on_ends
on_ends-cases P n f None u g = u
on_ends-cases P n f (Some e) u g = le_z-cases P e.low e.high (f e.low e.high) n (λ h. g e.low e.high h refl) (λ _. u)

pub on_both-cases : {A : Type 0} (P : A → Type 0) (n : A) (f : ℤ → ℤ → ℤ → ℤ → A) (r s : Option Interval) → P n → ((a b c d : ℤ) → a ≤ℤ b → c ≤ℤ d → r ≡ span a b → s ≡ span c d → P (f a b c d)) → P (on_both n f r s)
on_both-cases P n f r s u g = on_ends-cases P n _ r u (λ a b h e. on_ends-cases P n _ s u (λ c d k i. g a b c d h k e i))

-- ---- where it is known as it is taken
-- then it is the same itself, with its ends in their order
taken_is : (r : Option Interval) (a b : ℤ) → taken_of r ≡ span a b → (r ≡ span a b) × (a ≤ℤ b)
taken_is r a b = on_ends-cases (λ (s : Option Interval). s ≡ span a b → (r ≡ span a b) × (a ≤ℤ b)) None span r never same
  where
    never : None ≡ span a b → (r ≡ span a b) × (a ≤ℤ b)
    never e = let z : ◌≡◌ {A = ℕ} 0 1 = cc in absurd (omega arith)

    same : (c d : ℤ) → c ≤ℤ d → r ≡ span c d → span c d ≡ span a b → (r ≡ span a b) × (a ≤ℤ b)
    same c d h e i =
        let same : ◌≡◌ {A = Interval} (record { low = c; high = d }) (record { low = a; high = b }) = cc in
        (e ∙ i, rw (ap (λ (s : Interval). s.low) same, ap (λ (s : Interval). s.high) same) at h)

pub taken-ordered : (r : Option Interval) (a b : ℤ) → taken_of r ≡ span a b → a ≤ℤ b
taken-ordered r a b e = (taken_is r a b e).1

pub taken-ends : {A : Type 0} (n : A) (f : ℤ → ℤ → A) (r : Option Interval) (a b : ℤ) → taken_of r ≡ span a b → on_ends n f r ≡ f a b
unfolding on_ends
taken-ends n f r a b e = rw ((taken_is r a b e).0, le-true (taken_is r a b e).1)

pub taken_none : {A : Type 0} (n : A) (f : ℤ → ℤ → A) (r : Option Interval) → taken_of r ≡ None → on_ends n f r ≡ n
unfolding on_ends
taken_none n f None e = refl
taken_none n f (Some s) e = by (le_z s.low s.high) e
  where
    by : (t : Bool) → cond t (span s.low s.high) None ≡ None → cond t (f s.low s.high) n ≡ n
    by true e = cc
    by false e = refl

-- ---- from lo to hi
pub from_to-holds : {lo hi z : ℤ} → Within lo hi z → Holds (from_to lo hi) z
from_to-holds p = rw (le-true (ordered p)) p

pub from_to-only : (lo hi z : ℤ) → Holds (from_to lo hi) z → Within lo hi z
from_to-only lo hi z = le_z-cases (λ r. Holds r z → Within lo hi z) lo hi (span lo hi) None (λ _ p. p) (λ _ p. absurd p)
