-- The order of intervals is that of the numbers they hold, meet and join are its bounds, and what is made from the ends of intervals grows
-- with them.
-- Assumes nothing.
use mathlib.Core.Path.{◌≡◌, refl, sym}
use mathlib.Core.Bool.{Bool, true, false, cond, ◌&&◌}
use lib.IntN.{ℤ}
use lib.Signed.{le_z, ◌≤ℤ◌, ≤ℤ_refl}
use Rattle.interval.specs.Interval.{on_ends, on_both, from_to, taken_of, Within, Holds, span}
use Rattle.interval.specs.Lattice.{is_none_of, within_of, ◌⊑◌, meet_of, join_of}
use Rattle.interval.specs.declared.Interval.{Interval}
use Rattle.interval.proofs.IntegerLaws.{ints, ≤_trans, ≤-antisym, le-true, le_z-cases, le_z-yes', min-left, min-right, max-left, max-right, min-above, max-below, min-one, max-one, and_left, and_right, clash}
use Rattle.interval.proofs.IntervalLaws.{first, last, ordered, widen, Inside, inside, on_ends-holds, on_both-holds, on_ends-cases, on_both-cases, from_to-holds, from_to-only}
use Rattle.std.specs.Int.{int_min, int_max}
use Rattle.std.proofs.lemmas.Int.{clamps}
use Rattle.std.specs.Prelude.{None, Option, Some}

-- ---- none
pub none_within : (r : Option Interval) → None ⊑ r
unfolding within_of on_ends
none_within r = refl

-- what holds a number is some
pub holds-some : (r : Option Interval) (x : ℤ) → Holds r x → is_none_of r ≡ false
holds-some r x h = on_ends-holds (λ t. t ≡ false) true (λ a b. false) r x h (λ a b p. refl)

-- ---- the order, at the two ends
-- what holds both ends of a..b holds a..b
ends-within : (a b : ℤ) (s : Option Interval) → (a ≤ℤ b → Holds s a × Holds s b) → span a b ⊑ s
unfolding within_of on_ends
ends-within a b s f = le_z-cases (λ t. t ≡ true) a b (on_ends false (λ c d. le_z c a && le_z b d) s) true (λ h. by s (f h)) (λ _. refl)
  where
    by : (s : Option Interval) → Holds s a × Holds s b → on_ends false (λ c d. le_z c a && le_z b d) s ≡ true
    by None p = absurd p.0
    by (Some e) p = rw (le-true (ordered p.0), le-true p.0.low, le-true p.1.high)

-- and where a..b holds a number, all that a..b lies within is wider at both ends
wider-cases : (P : Option Interval → Type 0) {a b : ℤ} (s : Option Interval) → a ≤ℤ b → span a b ⊑ s → ((c d : ℤ) → Inside a b c d → P (span c d)) → P s
unfolding within_of on_ends
wider-cases P None h e g = clash (sym (rw (le-true h) at e))
wider-cases P {a} {b} (Some i) h e g = g i.low i.high (record { ordered = h; low = le_z-yes' i.low a (and_left (le_z i.low a) (le_z b i.high) k); high = le_z-yes' b i.high (and_right (le_z i.low a) (le_z b i.high) k) })
  where
    by : (t u : Bool) → cond t u false ≡ true → u ≡ true
    by true u e = e
    by false u e = clash (sym e)

    k : le_z i.low a && le_z b i.high ≡ true
    k = by (le_z i.low i.high) (le_z i.low a && le_z b i.high) (rw (le-true h) at e)

-- ---- the order, by the numbers held
pub within-holds : (r s : Option Interval) → r ⊑ s → (z : ℤ) → Holds r z → Holds s z
within-holds None s e z h = absurd h
within-holds (Some j) s e z h = wider-cases (λ t. Holds t z) s (ordered h) e (λ c d i. inside i h)

pub holds-within : (r s : Option Interval) → ((z : ℤ) → Holds r z → Holds s z) → r ⊑ s
holds-within None s f = none_within s
holds-within (Some e) s f = ends-within e.low e.high s (λ h. (f e.low (first h), f e.high (last h)))

pub within-refl : (r : Option Interval) → r ⊑ r
within-refl r = holds-within r r (λ z h. h)

pub within-trans : (r s t : Option Interval) → r ⊑ s → s ⊑ t → r ⊑ t
within-trans r s t h k = holds-within r t (λ z p. within-holds s t k z (within-holds r s h z p))

-- ---- what is made from the ends of intervals grows with them, in a relation R in which n is least
module _ {A : Type 0} (R : A → A → Type 0) (n : A) (least : (v : A) → R n v) where
  pub on_ends-mono : (f g : ℤ → ℤ → A) (r r' : Option Interval) → r ⊑ r' → ((a b a' b' : ℤ) → Inside a b a' b' → R (f a b) (g a' b')) → R (on_ends n f r) (on_ends n g r')
  unfolding on_ends
  on_ends-mono f g r r' e step = on_ends-cases (λ u. R u (on_ends n g r')) n f r (least _) (λ a b h i.
      wider-cases (λ t. R (f a b) (on_ends n g t)) r' h (rw i at e) (λ c d w. rw (le-true (≤_trans w.low (≤_trans w.ordered w.high))) (step a b c d w)))

  pub on_both-mono : (f : ℤ → ℤ → ℤ → ℤ → A) (r r' s s' : Option Interval) → r ⊑ r' → s ⊑ s' → ((a b c d a' b' c' d' : ℤ) → Inside a b a' b' → Inside c d c' d' → R (f a b c d) (f a' b' c' d')) → R (on_both n f r s) (on_both n f r' s')
  on_both-mono f r r' s s' e i step = on_ends-mono _ _ r r' e (λ a b a' b' p. on_ends-mono _ _ s s' i (λ c d c' d' q. step a b c d a' b' c' d' p q))

-- ---- from lo to hi
from_to-within : {lo hi : ℤ} (s : Option Interval) → ((z : ℤ) → Within lo hi z → Holds s z) → from_to lo hi ⊑ s
from_to-within {lo} {hi} s f = holds-within (from_to lo hi) s (λ z h. f z (from_to-only lo hi z h))

pub from_to-inside : {lo hi a b : ℤ} → a ≤ℤ lo → hi ≤ℤ b → from_to lo hi ⊑ span a b
from_to-inside {a} {b} p q = from_to-within (span a b) (λ z. widen p q)

pub from_to-mono : {lo hi lo' hi' : ℤ} → lo' ≤ℤ lo → hi ≤ℤ hi' → from_to lo hi ⊑ from_to lo' hi'
from_to-mono {lo'} {hi'} p q = from_to-within (from_to lo' hi') (λ z w. from_to-holds (widen p q w))

-- ---- meet
pub meet-contains : (r s : Option Interval) (z : ℤ) → Holds r z → Holds s z → Holds (meet_of r s) z
unfolding meet_of
meet-contains r s z h k = on_both-holds (λ t. Holds t z) None _ r s z z h k (λ a b c d p q. from_to-holds (record { low = max-below p.low q.low; high = min-above p.high q.high }))

meet-only : (r s : Option Interval) (z : ℤ) → Holds (meet_of r s) z → Holds r z × Holds s z
unfolding meet_of
meet-only r s z = on_both-cases (λ t. Holds t z → Holds r z × Holds s z) None _ r s (λ p. absurd p) (λ a b c d h k e i p.
    let w = from_to-only (int_max a c) (int_min b d) z p in
    (rw e (widen (max-left a c) (min-left b d) w), rw i (widen (max-right a c) (min-right b d) w)))

pub meet-within-left : (r s : Option Interval) → meet_of r s ⊑ r
meet-within-left r s = holds-within (meet_of r s) r (λ z p. (meet-only r s z p).0)

pub meet-within-right : (r s : Option Interval) → meet_of r s ⊑ s
meet-within-right r s = holds-within (meet_of r s) s (λ z p. (meet-only r s z p).1)

-- and its ends are in their order
abbrev pub Ordered : Option Interval → Type 0
Ordered None = Unit {0}
Ordered (Some e) = e.low ≤ℤ e.high

pub meet-ordered : (r s : Option Interval) → Ordered (meet_of r s)
unfolding meet_of
meet-ordered r s = on_both-cases Ordered None _ r s tt (λ a b c d _ _ _ _. le_z-cases Ordered (int_max a c) (int_min b d) (span (int_max a c) (int_min b d)) None (λ h. h) (λ _. tt))

-- with none, and with what lies within it already
pub meet-none : (r : Option Interval) → meet_of r None ≡ None
unfolding meet_of on_ends
meet-none r = on_ends-cases (λ (t : Option Interval). t ≡ None) None _ r refl (λ a b _ _. refl)

pub meet-absorbs : (r s : Option Interval) → Ordered s → s ⊑ r → meet_of r s ≡ s
unfolding meet_of on_ends
meet-absorbs r None o e = meet-none r
meet-absorbs r (Some j) o e = wider-cases (λ t. meet_of t (span j.low j.high) ≡ span j.low j.high) r o e (λ c d i. rw (
  le-true (≤_trans i.low (≤_trans o i.high)),
  le-true o,
  ≤-antisym (max-below i.low (≤ℤ_refl j.low)) (max-right c j.low),
  ≤-antisym (min-right d j.high) (min-above i.high (≤ℤ_refl j.high)),
  le-true o,
))

pub meet-mono : (r r' s s' : Option Interval) → r ⊑ r' → s ⊑ s' → meet_of r s ⊑ meet_of r' s'
meet-mono r r' s s' h k = holds-within (meet_of r s) (meet_of r' s') (λ z p.
    let w = meet-only r s z p in
    meet-contains r' s' z (within-holds r r' h z w.0) (within-holds s s' k z w.1))

-- ---- join
pub join-contains-left : (r s : Option Interval) (z : ℤ) → Holds r z → Holds (join_of r s) z
unfolding join_of
join-contains-left r s z h = on_ends-holds (λ t. Holds t z) (taken_of s) _ r z h (λ a b p.
    on_ends-cases (λ t. Holds t z) (span a b) _ s p (λ c d k i. widen (min-left a c) (max-left b d) p))

pub join-contains-right : (r s : Option Interval) (z : ℤ) → Holds s z → Holds (join_of r s) z
unfolding join_of
join-contains-right r s z h = on_ends-cases (λ t. Holds t z) (taken_of s) _ r (on_ends-holds (λ t. Holds t z) None span s z h (λ c d q. q)) (λ a b _ _.
    on_ends-holds (λ t. Holds t z) (span a b) _ s z h (λ c d q. widen (min-right a c) (max-right b d) q))

pub join-within : (r s t : Option Interval) → r ⊑ t → s ⊑ t → join_of r s ⊑ t
unfolding join_of
join-within r s t h k = on_ends-cases (λ j. j ⊑ t) (taken_of s) _ r right (λ a b l e. on_ends-cases (λ j. j ⊑ t) (span a b) _ s (rw e at h) (λ c d m i. both a b c d l m e i))
  where
    right : taken_of s ⊑ t
    right = on_ends-cases (λ j. j ⊑ t) None span s (none_within t) (λ c d m i. rw i at k)

    -- each end of the join is one of theirs
    both : (a b c d : ℤ) → a ≤ℤ b → c ≤ℤ d → r ≡ span a b → s ≡ span c d → span (int_min a c) (int_max b d) ⊑ t
    both a b c d l m e i =
        let p : (z : ℤ) → Within a b z → Holds t z = within-holds (span a b) t (rw e at h) in
        let q : (z : ℤ) → Within c d z → Holds t z = within-holds (span c d) t (rw i at k) in
        ends-within (int_min a c) (int_max b d) t (λ _. (min-one (Holds t) a c (p a (first l)) (q c (first m)), max-one (Holds t) b d (p b (last l)) (q d (last m))))

pub join-mono : (r r' s s' : Option Interval) → r ⊑ r' → s ⊑ s' → join_of r s ⊑ join_of r' s'
join-mono r r' s s' h k = join-within r s (join_of r' s')
    (holds-within r (join_of r' s') (λ z p. join-contains-left r' s' z (within-holds r r' h z p)))
    (holds-within s (join_of r' s') (λ z p. join-contains-right r' s' z (within-holds s s' k z p)))

-- ---- the order in which two are joined
min_comm : (a b : ℤ) → int_min a b ≡ int_min b a
min_comm a b = omega (ints, clamps)

max_comm : (a b : ℤ) → int_max a b ≡ int_max b a
max_comm a b = omega (ints, clamps)

pub join-comm : (r s : Option Interval) → join_of r s ≡ join_of s r
unfolding join_of on_ends
join-comm None None = refl
join-comm None (Some e) = refl
join-comm (Some e) None = refl
join-comm (Some e) (Some i) = rw (min_comm e.low i.low, max_comm e.high i.high) (by (le_z e.low e.high) (le_z i.low i.high) _ _ _)
  where
    by : (p q : Bool) (u v w : Option Interval) → cond p (cond q u v) (cond q w None) ≡ cond q (cond p u w) (cond p v None)
    by true true u v w = refl
    by true false u v w = refl
    by false true u v w = refl
    by false false u v w = refl
