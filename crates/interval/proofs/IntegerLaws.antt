-- Laws of ℤ: its order, products and quotients, the tests of order and of equality, and the least and the greatest of two. No bound on the numbers
-- is asked. `omega ints` proves a linear equation or order from those in scope, and `omega (ints, clamps)` also where there is a least or a greatest.
-- Assumes nothing.
use Prim.Native.Nat.{ℕ, zero, suc, ◌+◌, ◌*◌, ◌/◌, ◌≤◌, suc-le-suc}
use mathlib.Core.Path.{◌≡◌, refl, sym, subst, ◌∙◌}
use mathlib.Core.Bool.{Bool, true, false, cond, ◌&&◌}
use mathlib.Core.Logic.{◌⊎◌, inl, inr}
use native.Mathlib.Omega.{arith}
use native.Mathlib.Nat.{le_trans, le_of_suc-le-suc, zero-lt-suc, le-div_iff_mul-le, div-mul-le_self, mul-le-mul_right, mul-le-mul_left}
use lib.Dec.{T, leb-suc-zero, leb→le, le→leb}
use lib.IntN.{ℤ, pos, negsuc, neg_ℤ, ◌+ℤ◌, ◌-ℤ◌, ◌*ℤ◌, *ℤ-negsuc, *ℤ-zero, neg_ℤ-neg_ℤ}
use lib.Signed.{le_z, lt_z, quot_z, ◌≤ℤ◌, ◌<ℤ◌, ≤ℤ_refl}
use borrow.Author.Differences.{up, down}
use Rattle.std.specs.Int.{int_min, int_max}
use Rattle.std.proofs.lemmas.Int.{by_lt_z, clamps}
use Rattle.std.proofs.lemmas.Int.{ints as signed}
use Rattle.interval.specs.Integer.{eq_z}

pub ruleset ints = (arith, signed)

-- ---- an order or an equation from that of two sums of naturals: an integer z is up z − down z
pub nat_le : (a b : ℤ) → up a + down b ≤ up b + down a → a ≤ℤ b
nat_le a b h = omega ints

pub nat_eq : (a b : ℤ) → up a + down b ≡ up b + down a → a ≡ b
nat_eq a b h = omega ints

pub difference-nat : (a b : ℤ) → up (a -ℤ b) + down a + up b ≡ down (a -ℤ b) + up a + down b
difference-nat a b = omega ints

-- ---- the order's laws
pub ≤_trans : {a b c : ℤ} → a ≤ℤ b → b ≤ℤ c → a ≤ℤ c
≤_trans h k = omega ints

pub ≤-antisym : {a b : ℤ} → a ≤ℤ b → b ≤ℤ a → a ≡ b
≤-antisym h k = omega ints

pub lt-le : {a b : ℤ} → a <ℤ b → a ≤ℤ b
lt-le h = omega ints

pub ≤-<-trans : {a b c : ℤ} → a ≤ℤ b → b <ℤ c → a <ℤ c
≤-<-trans h k = omega ints

pub <-≤-trans : {a b c : ℤ} → a <ℤ b → b ≤ℤ c → a <ℤ c
<-≤-trans h k = omega ints

pub ≤-total : (a b : ℤ) → (a ≤ℤ b) ⊎ (b ≤ℤ a)
≤-total a b = by_lt_z b a (λ h. inr (lt-le h)) inl

pub add-mono : {a b c d : ℤ} → a ≤ℤ b → c ≤ℤ d → (a +ℤ c) ≤ℤ (b +ℤ d)
add-mono h k = omega ints

pub sub-mono : {a b c d : ℤ} → a ≤ℤ b → d ≤ℤ c → (a -ℤ c) ≤ℤ (b -ℤ d)
sub-mono h k = omega ints

pub neg-anti : {a b : ℤ} → a ≤ℤ b → neg_ℤ b ≤ℤ neg_ℤ a
neg-anti h = omega ints

-- one up, and one down
pub suc-low : {a b : ℤ} → a <ℤ b → (a +ℤ pos 1) ≤ℤ b
suc-low h = omega ints

pub pred-high : {a b : ℤ} → a <ℤ b → a ≤ℤ (b -ℤ pos 1)
pred-high h = omega ints

pub suc-above : (a : ℤ) → a ≤ℤ (a +ℤ pos 1)
suc-above a = omega ints

pub pred-below : (a : ℤ) → (a -ℤ pos 1) ≤ℤ a
pred-below a = omega ints

-- what is at least a, or at most b, and not that end, is past it
pub past-low : {a x : ℤ} → a ≤ℤ x → (a ≡ x → ⊥) → a <ℤ x
past-low h n = omega ints

-- what lies below 0, and what lies above it, is not 0
pub below-not-zero : {z : ℤ} → z ≤ℤ negsuc 0 → z ≡ pos 0 → ⊥
below-not-zero h e = omega ints

pub above-not-zero : {z : ℤ} → pos 1 ≤ℤ z → z ≡ pos 0 → ⊥
above-not-zero h e = omega ints

pub signs : (z : ℤ) → (z ≡ pos 0 → ⊥) → (z ≤ℤ negsuc 0) ⊎ (pos 1 ≤ℤ z)
signs z n = by_lt_z z (pos 0) (λ h. inl (omega ints)) (λ h. inr (omega ints))

-- ---- tests
pub clash : {X : Type 0} → true ≡ false → X
clash e = absurd (subst T e tt)

pub is_false : (t : Bool) → (t ≡ true → ⊥) → t ≡ false
is_false true n = absurd (n refl)
is_false false n = refl

pub and_left : (s t : Bool) → s && t ≡ true → s ≡ true
and_left true t e = refl
and_left false t e = e

pub and_right : (s t : Bool) → s && t ≡ true → t ≡ true
and_right true t e = e
and_right false t e = clash (sym e)

-- what a test of order says
pub le_z-yes' : (a b : ℤ) → le_z a b ≡ true → a ≤ℤ b
le_z-yes' a b e = omega ints

pub le_z-no' : (a b : ℤ) → le_z a b ≡ false → b <ℤ a
le_z-no' a b e = omega ints

pub lt_z-yes' : (a b : ℤ) → lt_z a b ≡ true → a <ℤ b
lt_z-yes' a b e = omega ints

pub lt_z-no' : (a b : ℤ) → lt_z a b ≡ false → b ≤ℤ a
lt_z-no' a b e = omega ints

-- and what says that it holds, or fails
pub le-true : {a b : ℤ} → a ≤ℤ b → le_z a b ≡ true
le-true h = sym (omega ints)

pub lt-true : {a b : ℤ} → a <ℤ b → lt_z a b ≡ true
lt-true h = sym (omega ints)

pub le-false : {a b : ℤ} → b <ℤ a → le_z a b ≡ false
le-false h = sym (omega ints)

-- its two cases
pub le_z-cases : {X : Type 0} (P : X → Type 0) (a b : ℤ) (x y : X) → (a ≤ℤ b → P x) → (b <ℤ a → P y) → P (cond (le_z a b) x y)
le_z-cases {X} P a b x y f g = by (le_z a b) refl
  where
    by : (t : Bool) → le_z a b ≡ t → P (cond t x y)
    by true e = f (le_z-yes' a b e)
    by false e = g (le_z-no' a b e)

pub lt_z-cases : {X : Type 0} (P : X → Type 0) (a b : ℤ) (x y : X) → (a <ℤ b → P x) → (b ≤ℤ a → P y) → P (cond (lt_z a b) x y)
lt_z-cases {X} P a b x y f g = by (lt_z a b) refl
  where
    by : (t : Bool) → lt_z a b ≡ t → P (cond t x y)
    by true e = f (lt_z-yes' a b e)
    by false e = g (lt_z-no' a b e)

-- the test of equality
pub eq_z-yes : (a b : ℤ) → eq_z a b ≡ true → a ≡ b
unfolding eq_z
eq_z-yes a b e = ≤-antisym (le_z-yes' a b (and_left (le_z a b) (le_z b a) e)) (le_z-yes' b a (and_right (le_z a b) (le_z b a) e))

pub eq_z-true : {a b : ℤ} → a ≡ b → eq_z a b ≡ true
unfolding eq_z
eq_z-true {a} {b} e = rw (e, le-true (≤ℤ_refl b))

pub eq_z-no : (a b : ℤ) → eq_z a b ≡ false → a ≡ b → ⊥
eq_z-no a b e p = clash (sym (eq_z-true p) ∙ e)

pub eq_z-false : {a b : ℤ} → (a ≡ b → ⊥) → eq_z a b ≡ false
eq_z-false {a} {b} n = is_false (eq_z a b) (λ e. n (eq_z-yes a b e))

-- ---- the least and the greatest of two: bounds, known from the order, one of the two, and growing with them
pub min-left : (a b : ℤ) → int_min a b ≤ℤ a
min-left a b = omega (ints, clamps)

pub min-right : (a b : ℤ) → int_min a b ≤ℤ b
min-right a b = omega (ints, clamps)

pub max-left : (a b : ℤ) → a ≤ℤ int_max a b
max-left a b = omega (ints, clamps)

pub max-right : (a b : ℤ) → b ≤ℤ int_max a b
max-right a b = omega (ints, clamps)

pub min-above : {c a b : ℤ} → c ≤ℤ a → c ≤ℤ b → c ≤ℤ int_min a b
min-above p q = omega (ints, clamps)

pub max-below : {c a b : ℤ} → a ≤ℤ c → b ≤ℤ c → int_max a b ≤ℤ c
max-below p q = omega (ints, clamps)

pub min-is : {a b : ℤ} → a ≤ℤ b → int_min a b ≡ a
min-is h = omega (ints, clamps)

pub max-is : {a b : ℤ} → b ≤ℤ a → int_max a b ≡ a
max-is h = omega (ints, clamps)

pub min-one : (P : ℤ → Type 0) (a b : ℤ) → P a → P b → P (int_min a b)
min-one P a b p q = lt_z-cases P b a b a (λ _. q) (λ _. p)

pub max-one : (P : ℤ → Type 0) (a b : ℤ) → P a → P b → P (int_max a b)
max-one P a b p q = lt_z-cases P b a a b (λ _. p) (λ _. q)

pub min-mono : {a b a' b' : ℤ} → a ≤ℤ a' → b ≤ℤ b' → int_min a b ≤ℤ int_min a' b'
min-mono h k = omega (ints, clamps)

pub max-mono : {a b a' b' : ℤ} → a ≤ℤ a' → b ≤ℤ b' → int_max a b ≤ℤ int_max a' b'
max-mono h k = omega (ints, clamps)

-- ---- products. A factor that is not negative keeps the order, and one that is not positive turns it round
pub neg-pos : (a b : ℕ) → neg_ℤ (pos a) ≤ℤ pos b
neg-pos a b = omega ints

pub neg-neg : {a b : ℕ} → b ≤ a → neg_ℤ (pos a) ≤ℤ neg_ℤ (pos b)
neg-neg h = omega ints

mul-pos : (n : ℕ) (a b : ℤ) → a ≤ℤ b → (a *ℤ pos n) ≤ℤ (b *ℤ pos n)
mul-pos n (pos a) (pos b) h = record { le = le→leb (a * n) (b * n) (mul-le-mul_right n (leb→le a b h.le)) }
mul-pos n (pos a) (negsuc b) h = absurd h.le
mul-pos n (negsuc a) (pos b) h = neg-pos (suc a * n) (b * n)
mul-pos n (negsuc a) (negsuc b) h = neg-neg (mul-le-mul_right n (up_one b a (leb→le b a h.le)))
  where
    up_one : (b a : ℕ) → b ≤ a → suc b ≤ suc a
    up_one b a h = omega arith

pub mul_mono : (k : ℤ) → pos 0 ≤ℤ k → (a b : ℤ) → a ≤ℤ b → (a *ℤ k) ≤ℤ (b *ℤ k)
mul_mono (pos n) z a b h = mul-pos n a b h
mul_mono (negsuc n) z a b h = absurd z.le

pub mul-anti : (k : ℤ) → k ≤ℤ pos 0 → (a b : ℤ) → a ≤ℤ b → (b *ℤ k) ≤ℤ (a *ℤ k)
mul-anti (pos zero) z a b h = mul-zero a b
  where
    zeros : (a : ℤ) → a *ℤ pos 0 ≡ pos 0
    zeros a = *ℤ-zero a

    mul-zero : (a b : ℤ) → (b *ℤ pos 0) ≤ℤ (a *ℤ pos 0)
    mul-zero a b = rw (zeros a, zeros b) (record { le = tt })
mul-anti (pos (suc n)) z a b h = absurd (subst T (leb-suc-zero n) z.le)
mul-anti (negsuc n) z a b h = rw (*ℤ-negsuc a n, *ℤ-negsuc b n) (neg-anti (mul-pos (suc n) a b h))

-- ---- quotients towards zero, by a divisor that is not 0
div_mono : {a b : ℕ} (n : ℕ) → a ≤ b → a / suc n ≤ b / suc n
div_mono {a} n h = (le-div_iff_mul-le (zero-lt-suc n)).1 (le_trans (div-mul-le_self a (suc n)) h)

div-anti : (a : ℕ) {m n : ℕ} → m ≤ n → a / suc n ≤ a / suc m
div-anti a {m} {n} h = (le-div_iff_mul-le (zero-lt-suc m)).1 (le_trans (mul-le-mul_left (a / suc n) (suc-le-suc h)) (div-mul-le_self a (suc n)))

-- a divisor's sign is the quotient's
pub quot-negsuc : (a : ℤ) (n : ℕ) → quot_z a (negsuc n) ≡ neg_ℤ (quot_z a (pos (suc n)))
quot-negsuc (pos a) n = refl
quot-negsuc (negsuc a) n = sym (neg_ℤ-neg_ℤ (pos (suc a / suc n)))

quot-pos : (n : ℕ) (a b : ℤ) → a ≤ℤ b → quot_z a (pos (suc n)) ≤ℤ quot_z b (pos (suc n))
quot-pos n (pos a) (pos b) h = record { le = le→leb (a / suc n) (b / suc n) (div_mono n (leb→le a b h.le)) }
quot-pos n (pos a) (negsuc b) h = absurd h.le
quot-pos n (negsuc a) (pos b) h = neg-pos (suc a / suc n) (b / suc n)
quot-pos n (negsuc a) (negsuc b) h = neg-neg (div_mono n (suc-le-suc (leb→le b a h.le)))

-- in the dividend
pub quot-mono : (k : ℤ) → pos 1 ≤ℤ k → (a b : ℤ) → a ≤ℤ b → quot_z a k ≤ℤ quot_z b k
quot-mono (pos zero) z a b h = absurd (subst T (leb-suc-zero 0) z.le)
quot-mono (pos (suc n)) z a b h = quot-pos n a b h
quot-mono (negsuc n) z a b h = absurd z.le

pub quot-anti : (k : ℤ) → k ≤ℤ negsuc 0 → (a b : ℤ) → a ≤ℤ b → quot_z b k ≤ℤ quot_z a k
quot-anti (pos n) z a b h = absurd z.le
quot-anti (negsuc n) z a b h = rw (quot-negsuc a n, quot-negsuc b n) (neg-anti (quot-pos n a b h))

-- in the divisor, among those above 0: a dividend that is not negative turns the order round, and a negative one keeps it
above_down : (a : ℕ) (m n : ℤ) → pos 1 ≤ℤ m → m ≤ℤ n → quot_z (pos a) n ≤ℤ quot_z (pos a) m
above_down a (pos zero) n z h = absurd z.le
above_down a (pos (suc m)) (pos zero) z h = absurd (subst T (leb-suc-zero m) h.le)
above_down a (pos (suc m)) (pos (suc n)) z h = record { le = le→leb (a / suc n) (a / suc m) (div-anti a (le_of_suc-le-suc (leb→le (suc m) (suc n) h.le))) }
above_down a (pos (suc m)) (negsuc n) z h = absurd h.le
above_down a (negsuc m) n z h = absurd z.le

above-up : (a : ℕ) (m n : ℤ) → pos 1 ≤ℤ m → m ≤ℤ n → quot_z (negsuc a) m ≤ℤ quot_z (negsuc a) n
above-up a (pos zero) n z h = absurd z.le
above-up a (pos (suc m)) (pos zero) z h = absurd (subst T (leb-suc-zero m) h.le)
above-up a (pos (suc m)) (pos (suc n)) z h = neg-neg (div-anti (suc a) (le_of_suc-le-suc (leb→le (suc m) (suc n) h.le)))
above-up a (pos (suc m)) (negsuc n) z h = absurd h.le
above-up a (negsuc m) n z h = absurd z.le

-- and among those below 0, by the divisor's negation
quot-neg : (k y : ℤ) → y ≤ℤ negsuc 0 → quot_z k y ≡ neg_ℤ (quot_z k (neg_ℤ y))
quot-neg k (pos n) h = absurd h.le
quot-neg k (negsuc n) h = quot-negsuc k n

below_by : (k m n : ℤ) → m ≤ℤ n → n ≤ℤ negsuc 0 → quot_z k (neg_ℤ m) ≤ℤ quot_z k (neg_ℤ n) → quot_z k n ≤ℤ quot_z k m
below_by k m n h z e = rw (quot-neg k n z, quot-neg k m (≤_trans h z)) (neg-anti e)

below-by' : (k m n : ℤ) → m ≤ℤ n → n ≤ℤ negsuc 0 → quot_z k (neg_ℤ n) ≤ℤ quot_z k (neg_ℤ m) → quot_z k m ≤ℤ quot_z k n
below-by' k m n h z e = rw (quot-neg k n z, quot-neg k m (≤_trans h z)) (neg-anti e)

-- m to n holds no 0
abbrev pub OneSign : ℤ → ℤ → Type 0
OneSign m n = (pos 1 ≤ℤ m) ⊎ (n ≤ℤ negsuc 0)

pub quot-down : (a : ℕ) (m n : ℤ) → OneSign m n → m ≤ℤ n → quot_z (pos a) n ≤ℤ quot_z (pos a) m
quot-down a m n (inl z) h = above_down a m n z h
quot-down a m n (inr z) h = below_by (pos a) m n h z (above_down a (neg_ℤ n) (neg_ℤ m) (neg-anti z) (neg-anti h))

pub quot-up : (a : ℕ) (m n : ℤ) → OneSign m n → m ≤ℤ n → quot_z (negsuc a) m ≤ℤ quot_z (negsuc a) n
quot-up a m n (inl z) h = above-up a m n z h
quot-up a m n (inr z) h = below-by' (negsuc a) m n h z (above-up a (neg_ℤ n) (neg_ℤ m) (neg-anti z) (neg-anti h))
