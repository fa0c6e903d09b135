-- Arithmetic on intervals holds every exact result that is a word and tells of every other one, and only of those; wider operands give a
-- wider result. All of it rests on three laws of the uncut pair: it holds every exact result, and wider operands give a wider pair, whatever the
-- operation; and of every operation but the remainder its ends are exact results.
-- Assumes nothing.
use mathlib.Core.Path.{◌≡◌, refl, sym, ◌∙◌}
use mathlib.Core.Bool.{Bool, true, false, ◌&&◌, ◌||◌, and-false, or-true}
use mathlib.Core.Logic.{◌⊎◌, inl, inr, ⊎_elim}
use lib.IntN.{ℤ, pos, negsuc, neg_ℤ, ◌+ℤ◌, ◌-ℤ◌, ◌*ℤ◌, *ℤ_comm}
use lib.Signed.{le_z, lt_z, quot_z, rem_z, ◌≤ℤ◌, ◌<ℤ◌, ≤ℤ_refl}
use Rattle.interval.specs.Integer.{min4_z, max4_z}
use Rattle.interval.specs.Interval.{least, greatest, from_to, Within, Holds, span}
use Rattle.interval.specs.Arithmetic.{exact, divides_of, by_zero, is_word, pair, ends, hull_of, corners, below_of, above_of, either_part_of, largest_of, remainders_of, uncut_of, zero_in_of, clamp_of, passes_of, computed_of, nothing_of, negate_of, operate_of}
use Rattle.interval.specs.Lattice.{is_none_of, ◌⊑◌}
use Rattle.interval.specs.Laws.{Wider, ExactEnds, Outside, Divided}
use Rattle.interval.specs.declared.Interval.{Interval}
use Rattle.interval.specs.declared.Operation.{Operation}
use Rattle.interval.specs.declared.Operation.TheVariants.{Sum, Difference, Product, Quotient, Remainder}
use Rattle.interval.specs.declared.Computed.{Computed}
use Rattle.interval.specs.declared.Uncut.{Uncut}
use Rattle.interval.proofs.IntegerLaws.{ints, ≤_trans, ≤-total, ≤-antisym, add-mono, sub-mono, neg-anti, mul_mono, mul-anti, quot-mono, quot-anti, OneSign, quot-down, quot-up, min-left, min-right, max-left, max-right, min-above, max-below, min-one, max-one, min-mono, max-mono, min-is, max-is, le_z-cases, le-true, le-false, ≤-<-trans, <-≤-trans, lt-true, le_z-no', lt_z-yes', is_false, clash, and_left, and_right, signs, eq_z-yes, eq_z-true, eq_z-no, eq_z-false, above-not-zero, below-not-zero}
use Rattle.interval.proofs.IntervalLaws.{first, last, ordered, test-within, Inside, inside, inside-single, on_ends-holds, on_both-holds, on_both-cases, from_to-holds}
use Rattle.interval.proofs.LatticeLaws.{none_within, holds-some, within-holds, from_to-mono, on_ends-mono, on_both-mono}
use Rattle.interval.proofs.RemainderLaws.{rem-toward-zero, rem_below, largest-bounds, largest-mono, only_zero, lowest, highest, ends-hold-zero, ends-hold, lowest-mono, highest-mono, remainders-cases}
use Rattle.std.specs.Int.{int_min, int_max}
use Rattle.std.specs.Prelude.{None, Option, Some}
use Rattle.std.proofs.lemmas.Int.{clamps, to_z-of_z}

-- ---- the numbers of a pair, and what holds of its ends
abbrev pub In : Option Uncut → ℤ → Type 0
In None z = ⊥
In (Some u) z = Within u.low u.high z

abbrev pub Ends : (ℤ → Type 0) → Option Uncut → Type 0
Ends P None = Unit {0}
Ends P (Some u) = P u.low × P u.high

-- ---- z between p and q, whichever is less
abbrev Amid : ℤ → ℤ → ℤ → Type 0
Amid p q z = Within (int_min p q) (int_max p q) z

rising : {p q z : ℤ} → p ≤ℤ z → z ≤ℤ q → Amid p q z
rising h k = record { low = omega (ints, clamps); high = omega (ints, clamps) }

falling : {p q z : ℤ} → q ≤ℤ z → z ≤ℤ p → Amid p q z
falling h k = record { low = omega (ints, clamps); high = omega (ints, clamps) }

-- ---- the four corners of an operation
-- what is amid two that are each amid two
hull-holds : (p q r s u v z : ℤ) → Amid p q u → Amid r s v → Amid u v z → In (hull_of p q r s) z
unfolding hull_of min4_z max4_z
hull-holds p q r s u v z a b c = record { low = omega (ints, clamps); high = omega (ints, clamps) }

-- so it is enough that each operand alone keeps the result amid those at its ends
corners-contain : (f : ℤ → ℤ → ℤ) (a b c d x y : ℤ) → Amid (f a y) (f b y) (f x y) → ((k : ℤ) → Amid (f k c) (f k d) (f k y)) → In (corners f a b c d) (f x y)
corners-contain f a b c d x y p q = hull-holds (f a c) (f a d) (f b c) (f b d) (f a y) (f b y) (f x y) (q a) (q b) p

hull-attained : (P : ℤ → Type 0) (p q r s : ℤ) → P p → P q → P r → P s → Ends P (hull_of p q r s)
unfolding hull_of min4_z max4_z
hull-attained P p q r s hp hq hr hs = (
  min-one P (int_min p q) (int_min r s) (min-one P p q hp hq) (min-one P r s hr hs),
  max-one P (int_max p q) (int_max r s) (max-one P p q hp hq) (max-one P r s hr hs),
)

corners-attained : (P : ℤ → Type 0) (f : ℤ → ℤ → ℤ) {a b c d : ℤ} → a ≤ℤ b → c ≤ℤ d → ((x y : ℤ) → Within a b x → Within c d y → P (f x y)) → Ends P (corners f a b c d)
corners-attained P f {a} {b} {c} {d} h k g = hull-attained P (f a c) (f a d) (f b c) (f b d)
    (g a c (first h) (first k)) (g a d (first h) (last k)) (g b c (last h) (first k)) (g b d (last h) (last k))

-- ---- products: a factor that is not negative keeps the order of the other, and one that is not positive turns it round
product-amid : (k : ℤ) {a b x : ℤ} → Within a b x → Amid (a *ℤ k) (b *ℤ k) (x *ℤ k)
product-amid k {a} {b} {x} p = ⊎_elim
    (λ (h : pos 0 ≤ℤ k). rising (mul_mono k h a x p.low) (mul_mono k h x b p.high))
    (λ (h : k ≤ℤ pos 0). falling (mul-anti k h x b p.high) (mul-anti k h a x p.low))
    (≤-total (pos 0) k)

-- ---- quotients, by divisors of one sign
one-low : {c d y : ℤ} → Within c d y → OneSign c d → OneSign c y
one-low p (inl h) = inl h
one-low p (inr h) = inr (≤_trans p.high h)

one-high : {c d y : ℤ} → Within c d y → OneSign c d → OneSign y d
one-high p (inl h) = inl (≤_trans h p.low)
one-high p (inr h) = inr h

dividend-amid : (k : ℤ) → OneSign k k → {a b x : ℤ} → Within a b x → Amid (quot_z a k) (quot_z b k) (quot_z x k)
dividend-amid k (inl h) {a} {b} {x} p = rising (quot-mono k h a x p.low) (quot-mono k h x b p.high)
dividend-amid k (inr h) {a} {b} {x} p = falling (quot-anti k h x b p.high) (quot-anti k h a x p.low)

divisor-amid : (k : ℤ) {c d y : ℤ} → OneSign c d → Within c d y → Amid (quot_z k c) (quot_z k d) (quot_z k y)
divisor-amid (pos a) {c} {d} {y} o p = falling (quot-down a y d (one-high p o) p.high) (quot-down a c y (one-low p o) p.low)
divisor-amid (negsuc a) {c} {d} {y} o p = rising (quot-up a c y (one-low p o) p.low) (quot-up a y d (one-high p o) p.high)

-- ---- the parts of the divisor, and both together
part-contains : {a b c d x y : ℤ} → OneSign c d → Within a b x → Within c d y → In (corners quot_z a b c d) (quot_z x y)
part-contains {a} {b} {c} {d} {x} {y} o p q = corners-contain quot_z a b c d x y (dividend-amid y (one-high (last q.low) (one-low q o)) p) (λ k. divisor-amid k o q)

-- no divisor of a part is 0
part-attained : (P : ℤ → Type 0) {a b m n c d : ℤ} → OneSign m n → a ≤ℤ b → Inside m n c d → ((x y : ℤ) → Within a b x → Within c d y → by_zero Quotient y ≡ false → P (quot_z x y)) → Ends P (corners quot_z a b m n)
part-attained P o h i g = corners-attained P quot_z h i.ordered (λ x y p q. g x y p (inside i q) (eq_z-false (not-zero y q o)))
  where
    not-zero : {m n : ℤ} (y : ℤ) → Within m n y → OneSign m n → y ≡ pos 0 → ⊥
    not-zero y q (inl o) = above-not-zero (≤_trans o q.low)
    not-zero y q (inr o) = below-not-zero (≤_trans q.high o)

either-contains : (u v : Option Uncut) (z : ℤ) → In u z ⊎ In v z → In (either_part_of u v) z
unfolding either_part_of
either-contains None v z (inl h) = absurd h
either-contains None v z (inr h) = h
either-contains (Some u) None z (inl h) = h
either-contains (Some u) None z (inr h) = absurd h
either-contains (Some u) (Some v) z (inl h) = record { low = omega (ints, clamps); high = omega (ints, clamps) }
either-contains (Some u) (Some v) z (inr h) = record { low = omega (ints, clamps); high = omega (ints, clamps) }

either-attained : (P : ℤ → Type 0) (u v : Option Uncut) → Ends P u → Ends P v → Ends P (either_part_of u v)
unfolding either_part_of
either-attained P None v p q = q
either-attained P (Some u) None p q = p
either-attained P (Some u) (Some v) p q = (min-one P u.low v.low p.0 q.0, max-one P u.high v.high p.1 q.1)

-- ---- remainders
remainders-contain : {a b c d x y : ℤ} → Within a b x → Within c d y → (y ≡ pos 0 → ⊥) → In (remainders_of a b c d) (rem_z x y)
remainders-contain {a} {b} {c} {d} {x} {y} p q n = remainders-cases (λ u. In u (rem_z x y)) a b (ordered q)
    (λ e i. absurd (n (≤-antisym (rw i at q.high) (rw e at q.low))))
    (λ _. ends-hold p (rem-toward-zero x y) (rem_below x y n (largest-bounds c d y q)))

-- 0 lies in every pair, so that both ends of one lie in a wider one
remainders-mono : {a b c d a' b' c' d' : ℤ} → Inside a b a' b' → Inside c d c' d' → Ends (In (remainders_of a' b' c' d')) (remainders_of a b c d)
remainders-mono {a} {b} {c} {d} {a'} {b'} {c'} {d'} i j = remainders-cases (Ends (In (remainders_of a' b' c' d'))) a b j.ordered (λ _ _. tt)
    (λ z. remainders-cases (λ v. In v (lowest a (largest_of c d)) × In v (highest b (largest_of c d))) a' b' (≤_trans j.low (≤_trans j.ordered j.high))
    (λ e k. let s = inside-single j (e ∙ sym k) in absurd (only_zero (s.0 ∙ e) (s.1 ∙ e) z))
    (λ z'.
    let inner = ends-hold-zero a b z in
    let outer = ends-hold-zero a' b' z' in (
      record { low = lowest-mono i.low (largest-mono j); high = ≤_trans inner.low outer.high },
      record { low = ≤_trans outer.low inner.high; high = highest-mono i.high (largest-mono j) },
    )))

-- ---- the three laws of the uncut pair
-- it holds every exact result
pub uncut-contains : (op : Operation) {a b c d x y : ℤ} → Within a b x → Within c d y → by_zero op y ≡ false → In (uncut_of op a b c d) (exact op x y)
unfolding uncut_of below_of above_of
uncut-contains Sum {a} {b} {c} {d} {x} {y} p q z = corners-contain ◌+ℤ◌ a b c d x y
    (rising (add-mono p.low (≤ℤ_refl y)) (add-mono p.high (≤ℤ_refl y)))
    (λ k. rising (add-mono (≤ℤ_refl k) q.low) (add-mono (≤ℤ_refl k) q.high))
uncut-contains Difference {a} {b} {c} {d} {x} {y} p q z = corners-contain ◌-ℤ◌ a b c d x y
    (rising (sub-mono p.low (≤ℤ_refl y)) (sub-mono p.high (≤ℤ_refl y)))
    (λ k. falling (sub-mono (≤ℤ_refl k) q.high) (sub-mono (≤ℤ_refl k) q.low))
uncut-contains Product {a} {b} {c} {d} {x} {y} p q z = corners-contain ◌*ℤ◌ a b c d x y
    (product-amid y p)
    (λ k. rw (*ℤ_comm k c, *ℤ_comm k d, *ℤ_comm k y) (product-amid k q))
uncut-contains Quotient {a} {b} {c} {d} {x} {y} p q z = either-contains (below_of a b c d) (above_of a b c d) (quot_z x y) (part (signs y (eq_z-no y (pos 0) z)))
  where
    part : (y ≤ℤ negsuc 0) ⊎ (pos 1 ≤ℤ y) → In (below_of a b c d) (quot_z x y) ⊎ In (above_of a b c d) (quot_z x y)
    part (inl h) = inl (rw (le-true (≤_trans q.low h)) (part-contains (inr (min-right d (negsuc 0))) p (record { low = q.low; high = min-above q.high h })))
    part (inr h) = inr (rw (le-true (≤_trans h q.high)) (part-contains (inl (max-right c (pos 1))) p (record { low = max-below q.low h; high = q.high })))
uncut-contains Remainder {x} {y} p q z = remainders-contain p q (eq_z-no y (pos 0) z)

-- its ends are exact results, but for the remainder
pub uncut-attained : (P : ℤ → Type 0) (op : Operation) → ExactEnds op → {a b c d : ℤ} → a ≤ℤ b → c ≤ℤ d → ((x y : ℤ) → Within a b x → Within c d y → by_zero op y ≡ false → P (exact op x y)) → Ends P (uncut_of op a b c d)
unfolding uncut_of below_of above_of
uncut-attained P Sum o h k g = corners-attained P ◌+ℤ◌ h k (λ x y p q. g x y p q refl)
uncut-attained P Difference o h k g = corners-attained P ◌-ℤ◌ h k (λ x y p q. g x y p q refl)
uncut-attained P Product o h k g = corners-attained P ◌*ℤ◌ h k (λ x y p q. g x y p q refl)
uncut-attained P Remainder o h k g = absurd o
uncut-attained P Quotient o {a} {b} {c} {d} h k g = either-attained P (below_of a b c d) (above_of a b c d) below above
  where
    below : Ends P (below_of a b c d)
    below = le_z-cases (Ends P) c (negsuc 0) (corners quot_z a b c (int_min d (negsuc 0))) None
        (λ l. part-attained P (inr (min-right d (negsuc 0))) h (record { ordered = min-above k l; low = ≤ℤ_refl c; high = min-left d (negsuc 0) }) g)
        (λ _. tt)

    above : Ends P (above_of a b c d)
    above = le_z-cases (Ends P) (pos 1) d (corners quot_z a b (int_max c (pos 1)) d) None
        (λ l. part-attained P (inl (max-right c (pos 1))) h (record { ordered = max-below k l; low = max-left c (pos 1); high = ≤ℤ_refl d }) g)
        (λ _. tt)

-- and wider operands give a wider pair
exact-mono : (op : Operation) → ExactEnds op → {a b c d a' b' c' d' : ℤ} → Inside a b a' b' → Inside c d c' d' → Ends (In (uncut_of op a' b' c' d')) (uncut_of op a b c d)
exact-mono op o {a'} {b'} {c'} {d'} i j = uncut-attained (In (uncut_of op a' b' c' d')) op o i.ordered j.ordered (λ x y p q. uncut-contains op (inside i p) (inside j q))

pub uncut-mono : (op : Operation) {a b c d a' b' c' d' : ℤ} → Inside a b a' b' → Inside c d c' d' → Ends (In (uncut_of op a' b' c' d')) (uncut_of op a b c d)
unfolding uncut_of
uncut-mono Sum i j = exact-mono Sum tt i j
uncut-mono Difference i j = exact-mono Difference tt i j
uncut-mono Product i j = exact-mono Product tt i j
uncut-mono Quotient i j = exact-mono Quotient tt i j
uncut-mono Remainder i j = remainders-mono i j

-- ---- the same for a negation
negation-contains : {a b x : ℤ} → Within a b x → In (ends neg_ℤ a b) (neg_ℤ x)
negation-contains p = falling (neg-anti p.high) (neg-anti p.low)

negation-attained : (P : ℤ → Type 0) {a b : ℤ} → a ≤ℤ b → ((x : ℤ) → Within a b x → P (neg_ℤ x)) → Ends P (ends neg_ℤ a b)
negation-attained P {a} {b} h g = (min-one P (neg_ℤ a) (neg_ℤ b) (g a (first h)) (g b (last h)), max-one P (neg_ℤ a) (neg_ℤ b) (g a (first h)) (g b (last h)))

-- ---- the pairs by name, where the operation keeps or turns the order of each operand
same_pair : {l h lo hi : ℤ} → l ≡ lo → h ≡ hi → pair l h ≡ pair lo hi
same_pair e i = rw (e, i)

pub ends-negation : (a b : ℤ) → a ≤ℤ b → ends neg_ℤ a b ≡ pair (neg_ℤ b) (neg_ℤ a)
ends-negation a b h = same_pair (omega (ints, clamps)) (omega (ints, clamps))

pub ruleset turned_ends = (to_z-of_z, ends-negation)

pub corners-sum : (a b c d : ℤ) → a ≤ℤ b → c ≤ℤ d → corners ◌+ℤ◌ a b c d ≡ pair (a +ℤ c) (b +ℤ d)
unfolding hull_of min4_z max4_z
corners-sum a b c d h k = same_pair (omega (ints, clamps)) (omega (ints, clamps))

pub corners-difference : (a b c d : ℤ) → a ≤ℤ b → c ≤ℤ d → corners ◌-ℤ◌ a b c d ≡ pair (a -ℤ d) (b -ℤ c)
unfolding hull_of min4_z max4_z
corners-difference a b c d h k = same_pair (omega (ints, clamps)) (omega (ints, clamps))

pub ruleset two_corners = (to_z-of_z, corners-sum, corners-difference)

-- ---- the cut to words
pub clamp-is : (lo hi : ℤ) → least ≤ℤ lo → hi ≤ℤ greatest → clamp_of lo hi ≡ from_to lo hi
clamp-is lo hi p q = rw (max-is p, min-is q)

clamp-holds : {lo hi z : ℤ} → Within lo hi z → is_word z ≡ true → Holds (clamp_of lo hi) z
clamp-holds {z} p e =
    let w = test-within least greatest z e in
    from_to-holds (record { low = max-below p.low w.low; high = min-above p.high w.high })

-- overflow is told where a number of the pair is no word
passes-told : {lo hi z : ℤ} → Within lo hi z → is_word z ≡ false → passes_of lo hi ≡ true
passes-told {lo} {hi} {z} p e = by (le_z least z) (le_z z greatest) e (le_z-no' least z) (le_z-no' z greatest)
  where
    by : (s t : Bool) → s && t ≡ false → (s ≡ false → z <ℤ least) → (t ≡ false → greatest <ℤ z) → passes_of lo hi ≡ true
    by true t e f g = rw (lt-true (<-≤-trans (g e) p.high)) (or-true (lt_z lo least))
    by false t e f g = rw (lt-true (≤-<-trans p.low (f refl)))

-- and only where one of its ends is no word
passes-only : {X : Type 0} (lo hi : ℤ) → (is_word lo ≡ false → X) → (is_word hi ≡ false → X) → passes_of lo hi ≡ true → X
passes-only {X} lo hi f g e = by (lt_z lo least) (lt_z greatest hi) e (lt_z-yes' lo least) (lt_z-yes' greatest hi)
  where
    by : (s t : Bool) → s || t ≡ true → (s ≡ true → lo <ℤ least) → (t ≡ true → greatest <ℤ hi) → X
    by true t e p q = f (rw (le-false (p refl)))
    by false t e p q = g (rw (le-false (q e)) (and-false (le_z least hi)))

-- ---- what is computed from a pair
-- the exact result z lies in the interval, or is told as overflow
pub record Tells (c : Computed) (z : ℤ) : Type 0 where
  pub contains : is_word z ≡ true → Holds c.range z
  pub overflow : is_word z ≡ false → c.overflow ≡ true

-- so where there is no interval it is no word
pub tells-some : (c : Computed) (z : ℤ) → Tells c z → is_none_of c.range ≡ true → is_word z ≡ false
tells-some c z p e = is_false (is_word z) (λ w. clash (sym e ∙ holds-some c.range z (p.contains w)))

computed-tells : (u : Option Uncut) (t : Bool) (z : ℤ) → In u z → Tells (computed_of u t) z
unfolding computed_of
computed-tells None t z h = absurd h
computed-tells (Some u) t z h = record { contains = clamp-holds h; overflow = passes-told h }

computed-overflow-only : {X : Type 0} (P : ℤ → Type 0) (u : Option Uncut) (t : Bool) → Ends P u → ((z : ℤ) → P z → is_word z ≡ false → X) → (computed_of u t).overflow ≡ true → X
unfolding computed_of
computed-overflow-only P None t p g e = clash (sym e)
computed-overflow-only P (Some u) t p g e = passes-only u.low u.high (g u.low p.0) (g u.high p.1) e

computed-zero : (u : Option Uncut) (t : Bool) → (computed_of u t).zero ≡ t
unfolding computed_of
computed-zero None t = refl
computed-zero (Some u) t = refl

-- a pair whose ends lie in another gives no more than that
computed-range : (u v : Option Uncut) (s t : Bool) → Ends (In v) u → (computed_of u s).range ⊑ (computed_of v t).range
unfolding computed_of
computed-range None v s t p = none_within (computed_of v t).range
computed-range (Some u) None s t p = absurd p.0
computed-range (Some u) (Some v) s t p = from_to-mono (max-mono p.0.low (≤ℤ_refl least)) (min-mono p.1.high (≤ℤ_refl greatest))

computed-mono : (u v : Option Uncut) (s t : Bool) → Ends (In v) u → (s ≡ true → t ≡ true) → Wider (computed_of u s) (computed_of v t)
computed-mono u v s t p f = record {
  range = computed-range u v s t p;
  overflow = computed-overflow-only (In v) u s p (λ z i. (computed-tells v t z i).overflow);
  zero = rw (computed-zero u s, computed-zero v t) f;
}

nothing-least : (c : Computed) → Wider nothing_of c
nothing-least c = record { range = none_within c.range; overflow = λ e. clash (sym e); zero = λ e. clash (sym e) }

-- ---- negation
pub negate-tells : (r : Option Interval) (x : ℤ) → Holds r x → Tells (negate_of r) (neg_ℤ x)
unfolding negate_of
negate-tells r x h = on_ends-holds (λ c. Tells c (neg_ℤ x)) nothing_of _ r x h (λ a b p. computed-tells (ends neg_ℤ a b) false (neg_ℤ x) (negation-contains p))

pub negate-mono : (r r' : Option Interval) → r ⊑ r' → Wider (negate_of r) (negate_of r')
unfolding negate_of
negate-mono r r' h = on_ends-mono Wider nothing_of nothing-least _ _ r r' h (λ a b a' b' i.
    computed-mono (ends neg_ℤ a b) (ends neg_ℤ a' b') false false (negation-attained (In (ends neg_ℤ a' b')) i.ordered (λ x p. negation-contains (inside i p))) (λ e. e))

-- ---- the operations
pub operate-tells : (op : Operation) (r s : Option Interval) (x y : ℤ) → Holds r x → Holds s y → by_zero op y ≡ false → Tells (operate_of op r s) (exact op x y)
unfolding operate_of
operate-tells op r s x y h k z = on_both-holds (λ c. Tells c (exact op x y)) nothing_of _ r s x y h k (λ a b c d p q. computed-tells (uncut_of op a b c d) (zero_in_of op c d) (exact op x y) (uncut-contains op p q z))

pub operate-overflow-only : (op : Operation) → ExactEnds op → (r s : Option Interval) → (operate_of op r s).overflow ≡ true → Outside op r s
unfolding operate_of
operate-overflow-only op o r s = on_both-cases (λ c. c.overflow ≡ true → Outside op r s) nothing_of _ r s (λ e. clash (sym e)) (λ a b c d h k e i.
    computed-overflow-only (λ z. is_word z ≡ false → Outside op r s) (uncut_of op a b c d) (zero_in_of op c d)
    (uncut-attained (λ z. is_word z ≡ false → Outside op r s) op o h k (λ x y p q z w. record { x = x; y = y; left = rw e p; right = rw i q; divides = z; outside = w }))
    (λ z f. f))

-- a divisor that can be 0 is told, and only such a one
zero-told : (op : Operation) {c d y : ℤ} → Within c d y → by_zero op y ≡ true → zero_in_of op c d ≡ true
zero-told op {c} {d} {y} q z =
    let w : Within c d (pos 0) = rw (eq_z-yes y (pos 0) (and_right (divides_of op) _ z)) at q in
    rw (and_left (divides_of op) _ z, le-true w.low, le-true w.high)

zero-only : (op : Operation) (c d : ℤ) → zero_in_of op c d ≡ true → Within c d (pos 0) × (by_zero op (pos 0) ≡ true)
zero-only op c d z = (test-within c d (pos 0) (and_right (divides_of op) _ z), rw (and_left (divides_of op) _ z) (eq_z-true {a = pos 0} refl))

zero-mono : (op : Operation) {c d c' d' : ℤ} → Inside c d c' d' → zero_in_of op c d ≡ true → zero_in_of op c' d' ≡ true
zero-mono op {c} {d} i z = let w = zero-only op c d z in zero-told op (inside i w.0) w.1

pub operate-zero : (op : Operation) (r s : Option Interval) (x y : ℤ) → Holds r x → Holds s y → by_zero op y ≡ true → (operate_of op r s).zero ≡ true
unfolding operate_of
operate-zero op r s x y h k z = on_both-holds (λ c. c.zero ≡ true) nothing_of _ r s x y h k (λ a b c d p q. computed-zero (uncut_of op a b c d) (zero_in_of op c d) ∙ zero-told op q z)

pub operate-zero-only : (op : Operation) (r s : Option Interval) → (operate_of op r s).zero ≡ true → Divided op r s
unfolding operate_of
operate-zero-only op r s = on_both-cases (λ c. c.zero ≡ true → Divided op r s) nothing_of _ r s (λ e. clash (sym e)) (λ a b c d h k e i z.
    let w = zero-only op c d (sym (computed-zero (uncut_of op a b c d) (zero_in_of op c d)) ∙ z) in
    record { x = a; left = rw e (first h); right = rw i w.0; divides = w.1 })

pub operate-mono : (op : Operation) (r r' s s' : Option Interval) → r ⊑ r' → s ⊑ s' → Wider (operate_of op r s) (operate_of op r' s')
unfolding operate_of
operate-mono op r r' s s' h k = on_both-mono Wider nothing_of nothing-least _ r r' s s' h k (λ a b c d a' b' c' d' i j.
    computed-mono (uncut_of op a b c d) (uncut_of op a' b' c' d') (zero_in_of op c d) (zero_in_of op c' d')
    (uncut-mono op i j)
    (zero-mono op j))

-- ---- the ends of a remainder of words are words, so it passes neither MIN nor MAX
remainders-fit : {a b c d : ℤ} → Inside a b least greatest → c ≤ℤ d → Ends (λ z. is_word z ≡ true) (remainders_of a b c d)
remainders-fit {a} {b} {c} {d} i k = remainders-cases (Ends (λ z. is_word z ≡ true)) a b k (λ _ _. tt) (λ z.
    let zero = ends-hold-zero a b z in
    let most = largest_of c d in
    (is-word (lowest a most) (omega (ints, clamps)) (omega ints), is-word (highest b most) (omega ints) (omega (ints, clamps))))
  where
    is-word : (z : ℤ) → least ≤ℤ z → z ≤ℤ greatest → is_word z ≡ true
    is-word z h k = rw (le-true h, le-true k)

pub remainder-no-overflow : (r s : Option Interval) → r ⊑ span least greatest → (operate_of Remainder r s).overflow ≡ false
unfolding operate_of uncut_of
remainder-no-overflow r s w = on_both-cases (λ c. c.overflow ≡ false) nothing_of _ r s refl (λ a b c d h k e i.
    is_false _ (computed-overflow-only (λ z. is_word z ≡ true) (remainders_of a b c d) (zero_in_of Remainder c d) (remainders-fit (words a b h e) k) (λ z p q. clash (sym p ∙ q))))
  where
    words : (a b : ℤ) → a ≤ℤ b → r ≡ span a b → Inside a b least greatest
    words a b h e = record { ordered = h; low = (within-holds r (span least greatest) w a (rw e (first h))).low; high = (within-holds r (span least greatest) w b (rw e (last h))).high }
