-- The cuts that a comparison of a known truth makes keep both numbers, lie within what was cut, so that meeting them with it changes nothing, and are
-- wider for wider operands.
-- Assumes nothing.
use mathlib.Core.Path.{◌≡◌, refl, sym, ◌∙◌}
use mathlib.Core.Bool.{Bool, true, false, cond, ◌&&◌}
use lib.IntN.{ℤ, pos, ◌+ℤ◌, ◌-ℤ◌}
use lib.Signed.{le_z, ◌≤ℤ◌, ≤ℤ_refl}
use borrow.Author.Tests.{not-true, not-false}
use Rattle.interval.specs.Integer.{eq_z}
use Rattle.interval.specs.Interval.{Holds, span}
use Rattle.interval.specs.Lattice.{◌⊑◌, meet_of}
use Rattle.interval.specs.Compare.{test}
use Rattle.interval.specs.Narrow.{no_cuts_of, kept_of, swapped_of, low_past_of, high_past_of, without_of, cuts_at, cuts_for_of, cuts_of}
use Rattle.interval.specs.Laws.{CutsWithin}
use Rattle.interval.specs.declared.Interval.{Interval}
use Rattle.interval.specs.declared.Cuts.{Cuts}
use Rattle.interval.specs.declared.Comparison.{Comparison}
use Rattle.interval.specs.declared.Comparison.TheVariants.{Less, AtMost, Equal, NotEqual}
use Rattle.interval.proofs.IntegerLaws.{≤_trans, add-mono, sub-mono, suc-above, pred-below, suc-low, pred-high, past-low, le-true, lt-true, le_z-yes', le_z-no', lt_z-yes', lt_z-no', min-left, min-right, max-left, max-right, min-above, max-below, min-mono, max-mono, and_left, and_right, eq_z-yes, eq_z-no}
use Rattle.interval.proofs.IntervalLaws.{first, last, Inside, inside, single-inside, inside-single, on_both-holds, on_both-cases, from_to-holds}
use Rattle.interval.proofs.LatticeLaws.{none_within, within-holds, holds-within, on_both-mono, from_to-inside, from_to-mono, Ordered, meet-absorbs}
use Rattle.std.specs.Prelude.{Option}

-- ---- two cuts
-- x and y each lie in their side
pub record Keeps (u : Cuts) (x y : ℤ) : Type 0 where
  pub left : Holds u.left x
  pub right : Holds u.right y

abbrev cuts : Option Interval → Option Interval → Cuts
cuts r s = record { left = r; right = s }

no-cuts-least : (u : Cuts) → CutsWithin no_cuts_of u
no-cuts-least u = record { left = none_within u.left; right = none_within u.right }

swapped-within : {u v : Cuts} → CutsWithin u v → CutsWithin (swapped_of u) (swapped_of v)
swapped-within p = record { left = p.right; right = p.left }

swapped-keeps : {u : Cuts} {x y : ℤ} → Keeps u x y → Keeps (swapped_of u) y x
swapped-keeps p = record { left = p.right; right = p.left }

wider-keeps : {u v : Cuts} {x y : ℤ} → CutsWithin u v → Keeps u x y → Keeps v x y
wider-keeps {u} {v} {x} {y} w p = record { left = within-holds u.left v.left w.left x p.left; right = within-holds u.right v.right w.right y p.right }

-- ---- what is kept where both sides hold a number
kept-keeps : (r s : Option Interval) (x y : ℤ) → Holds r x → Holds s y → Keeps (kept_of r s) x y
unfolding kept_of
kept-keeps r s x y h k = on_both-holds (λ u. Keeps u x y) no_cuts_of _ r s x y h k (λ a b c d p q. record { left = p; right = q })

kept-within : (r s r' s' : Option Interval) → r ⊑ r' → s ⊑ s' → CutsWithin (kept_of r s) (cuts r' s')
unfolding kept_of
kept-within r s r' s' h k = on_both-cases (λ u. CutsWithin u (cuts r' s')) no_cuts_of _ r s (no-cuts-least (cuts r' s')) (λ a b c d _ _ e i. record { left = rw e at h; right = rw i at k })

kept-mono : (r s r' s' : Option Interval) → r ⊑ r' → s ⊑ s' → CutsWithin (kept_of r s) (kept_of r' s')
unfolding kept_of
kept-mono r s r' s' h k = on_both-mono CutsWithin no_cuts_of no-cuts-least _ r r' s s' h k (λ a b c d a' b' c' d' i j.
    record { left = holds-within (span a b) (span a' b') (λ z. inside i); right = holds-within (span c d) (span c' d') (λ z. inside j) })

-- ---- the ends past the other side's single value
past_cases : (P : ℤ → Type 0) (a m c d : ℤ) → (c ≡ d → a ≡ c → P m) → ((c ≡ d → a ≡ c → ⊥) → P a) → P (cond (eq_z c d && eq_z a c) m a)
past_cases P a m c d f g = by (eq_z c d) (eq_z a c) (eq_z-yes c d) (eq_z-yes a c) (eq_z-no c d) (eq_z-no a c)
  where
    by : (s t : Bool) → (s ≡ true → c ≡ d) → (t ≡ true → a ≡ c) → (s ≡ false → c ≡ d → ⊥) → (t ≡ false → a ≡ c → ⊥) → P (cond (s && t) m a)
    by true true p q u v = f (p refl) (q refl)
    by true false p q u v = g (λ _. v refl)
    by false t p q u v = g (λ e _. u refl e)

pub low-above : (a c d : ℤ) → a ≤ℤ low_past_of a c d
unfolding low_past_of
low-above a c d = past_cases (λ z. a ≤ℤ z) a (a +ℤ pos 1) c d (λ _ _. suc-above a) (λ _. ≤ℤ_refl a)

pub high-below : (b c d : ℤ) → high_past_of b c d ≤ℤ b
unfolding high_past_of
high-below b c d = past_cases (λ z. z ≤ℤ b) b (b -ℤ pos 1) c d (λ _ _. pred-below b) (λ _. ≤ℤ_refl b)

-- a wider side that is a single value has none but that within it: so an end left out there is left out here too, or is another
module _ {c d c' d' : ℤ} (j : Inside c d c' d') where
  other-end : {a a' : ℤ} → c' ≡ d' → a' ≡ c' → (c ≡ d → a ≡ c → ⊥) → a ≡ a' → ⊥
  other-end e f n g =
      let p = inside-single j e in
      n (p.0 ∙ sym p.1) (g ∙ f ∙ sym p.0)

  low-mono : {a a' : ℤ} → a' ≤ℤ a → low_past_of a' c' d' ≤ℤ low_past_of a c d
  unfolding low_past_of
  low-mono {a} {a'} h = past_cases (λ z. z ≤ℤ low_past_of a c d) a' (a' +ℤ pos 1) c' d'
      (λ e f. past_cases (λ z. (a' +ℤ pos 1) ≤ℤ z) a (a +ℤ pos 1) c d (λ _ _. add-mono h (≤ℤ_refl (pos 1))) (λ n. suc-low (past-low h (λ g. other-end e f n (sym g)))))
      (λ _. ≤_trans h (low-above a c d))

  high-mono : {b b' : ℤ} → b ≤ℤ b' → high_past_of b c d ≤ℤ high_past_of b' c' d'
  unfolding high_past_of
  high-mono {b} {b'} h = past_cases (λ z. high_past_of b c d ≤ℤ z) b' (b' -ℤ pos 1) c' d'
      (λ e f. past_cases (λ z. z ≤ℤ (b' -ℤ pos 1)) b (b -ℤ pos 1) c d (λ _ _. sub-mono h (≤ℤ_refl (pos 1))) (λ n. pred-high (past-low h (other-end e f n))))
      (λ _. ≤_trans (high-below b c d) h)

-- ---- the cuts at given ends are wider for wider ends
at-mono : (k : Comparison) {a b c d a' b' c' d' : ℤ} → Inside a b a' b' → Inside c d c' d' → CutsWithin (cuts_at k a b c d) (cuts_at k a' b' c' d')
unfolding cuts_at without_of
at-mono Less i j = kept-mono _ _ _ _ (from_to-mono i.low (min-mono i.high (sub-mono j.high (≤ℤ_refl (pos 1))))) (from_to-mono (max-mono j.low (add-mono i.low (≤ℤ_refl (pos 1)))) j.high)
at-mono AtMost i j = kept-mono _ _ _ _ (from_to-mono i.low (min-mono i.high j.high)) (from_to-mono (max-mono j.low i.low) j.high)
at-mono Equal i j =
    let m = from_to-mono (max-mono i.low j.low) (min-mono i.high j.high) in
    kept-mono _ _ _ _ m m
at-mono NotEqual i j = kept-mono _ _ _ _ (from_to-mono (low-mono j i.low) (high-mono j i.high)) (from_to-mono (low-mono i j.low) (high-mono i j.high))

for-mono : (k : Comparison) (w : Bool) {a b c d a' b' c' d' : ℤ} → Inside a b a' b' → Inside c d c' d' → CutsWithin (cuts_for_of k w a b c d) (cuts_for_of k w a' b' c' d')
unfolding cuts_for_of
for-mono k true i j = at-mono k i j
for-mono Less false i j = swapped-within (at-mono AtMost j i)
for-mono AtMost false i j = swapped-within (at-mono Less j i)
for-mono Equal false i j = at-mono NotEqual i j
for-mono NotEqual false i j = at-mono Equal i j

pub cuts-mono : (k : Comparison) (w : Bool) (r r' s s' : Option Interval) → r ⊑ r' → s ⊑ s' → CutsWithin (cuts_of k w r s) (cuts_of k w r' s')
unfolding cuts_of
cuts-mono k w r r' s s' h l = on_both-mono CutsWithin no_cuts_of no-cuts-least (cuts_for_of k w) r r' s s' h l (λ a b c d a' b' c' d' i j. for-mono k w i j)

-- ---- and lie within those ends
at-within : (k : Comparison) (a b c d : ℤ) → CutsWithin (cuts_at k a b c d) (cuts (span a b) (span c d))
unfolding cuts_at without_of
at-within Less a b c d = kept-within _ _ _ _ (from_to-inside (≤ℤ_refl a) (min-left b (d -ℤ pos 1))) (from_to-inside (max-left c (a +ℤ pos 1)) (≤ℤ_refl d))
at-within AtMost a b c d = kept-within _ _ _ _ (from_to-inside (≤ℤ_refl a) (min-left b d)) (from_to-inside (max-left c a) (≤ℤ_refl d))
at-within Equal a b c d = kept-within _ _ _ _ (from_to-inside (max-left a c) (min-left b d)) (from_to-inside (max-right a c) (min-right b d))
at-within NotEqual a b c d = kept-within _ _ _ _ (from_to-inside (low-above a c d) (high-below b c d)) (from_to-inside (low-above c a b) (high-below d a b))

for-within : (k : Comparison) (w : Bool) (a b c d : ℤ) → CutsWithin (cuts_for_of k w a b c d) (cuts (span a b) (span c d))
unfolding cuts_for_of
for-within k true a b c d = at-within k a b c d
for-within Less false a b c d = swapped-within (at-within AtMost c d a b)
for-within AtMost false a b c d = swapped-within (at-within Less c d a b)
for-within Equal false a b c d = at-within NotEqual a b c d
for-within NotEqual false a b c d = at-within Equal a b c d

pub cuts-within : (k : Comparison) (w : Bool) (r s : Option Interval) → CutsWithin (cuts_of k w r s) (cuts r s)
unfolding cuts_of
cuts-within k w r s = on_both-cases (λ u. CutsWithin u (cuts r s)) no_cuts_of (cuts_for_of k w) r s (no-cuts-least (cuts r s)) (λ a b c d _ _ e i. rw (e, i) (for-within k w a b c d))

-- ---- and their ends are in their order
record CutsOrdered (u : Cuts) : Type 0 where
  pub left : Ordered u.left
  pub right : Ordered u.right

no-cuts-ordered : CutsOrdered no_cuts_of
no-cuts-ordered = record { left = tt; right = tt }

swapped-ordered : {u : Cuts} → CutsOrdered u → CutsOrdered (swapped_of u)
swapped-ordered p = record { left = p.right; right = p.left }

kept-ordered : (r s : Option Interval) → CutsOrdered (kept_of r s)
unfolding kept_of
kept-ordered r s = on_both-cases CutsOrdered no_cuts_of _ r s no-cuts-ordered (λ a b c d h k _ _. record { left = h; right = k })

at-ordered : (k : Comparison) (a b c d : ℤ) → CutsOrdered (cuts_at k a b c d)
unfolding cuts_at
at-ordered Less a b c d = kept-ordered _ _
at-ordered AtMost a b c d = kept-ordered _ _
at-ordered Equal a b c d = kept-ordered _ _
at-ordered NotEqual a b c d = kept-ordered _ _

for-ordered : (k : Comparison) (w : Bool) (a b c d : ℤ) → CutsOrdered (cuts_for_of k w a b c d)
unfolding cuts_for_of
for-ordered k true a b c d = at-ordered k a b c d
for-ordered Less false a b c d = swapped-ordered (at-ordered AtMost c d a b)
for-ordered AtMost false a b c d = swapped-ordered (at-ordered Less c d a b)
for-ordered Equal false a b c d = at-ordered NotEqual a b c d
for-ordered NotEqual false a b c d = at-ordered Equal a b c d

cuts-ordered : (k : Comparison) (w : Bool) (r s : Option Interval) → CutsOrdered (cuts_of k w r s)
unfolding cuts_of
cuts-ordered k w r s = on_both-cases CutsOrdered no_cuts_of (cuts_for_of k w) r s no-cuts-ordered (λ a b c d _ _ _ _. for-ordered k w a b c d)

-- so that meeting them with what was cut changes nothing
pub cuts-met :
    (k : Comparison) (w : Bool) (r s : Option Interval)
    → (meet_of r (cuts_of k w r s).left ≡ (cuts_of k w r s).left) × (meet_of s (cuts_of k w r s).right ≡ (cuts_of k w r s).right)
cuts-met k w r s =
    let o = cuts-ordered k w r s in
    let i = cuts-within k w r s in
    (meet-absorbs r _ o.left i.left, meet-absorbs s _ o.right i.right)

-- ---- and keep two numbers for which the comparison is so
without-keeps : (x y : ℤ) → (x ≡ y → ⊥) → Holds (without_of x x y y) x
unfolding without_of low_past_of high_past_of
without-keeps x y n = from_to-holds (record {
  low = past_cases (λ z. z ≤ℤ x) x (x +ℤ pos 1) y y (λ _ e. absurd (n e)) (λ _. ≤ℤ_refl x);
  high = past_cases (λ z. x ≤ℤ z) x (x -ℤ pos 1) y y (λ _ e. absurd (n e)) (λ _. ≤ℤ_refl x);
})

at-keeps : (k : Comparison) (x y : ℤ) → test k x y ≡ true → Keeps (cuts_at k x x y y) x y
unfolding cuts_at eq_z
at-keeps Less x y e =
    let h = lt_z-yes' x y e in
    kept-keeps _ _ x y (from_to-holds (first (min-above (≤ℤ_refl x) (pred-high h)))) (from_to-holds (last (max-below (≤ℤ_refl y) (suc-low h))))
at-keeps AtMost x y e =
    let h = le_z-yes' x y e in
    kept-keeps _ _ x y (from_to-holds (first (min-above (≤ℤ_refl x) h))) (from_to-holds (last (max-below (≤ℤ_refl y) h)))
at-keeps Equal x y e =
    let h = le_z-yes' x y (and_left (le_z x y) (le_z y x) e) in
    let k = le_z-yes' y x (and_right (le_z x y) (le_z y x) e) in
    kept-keeps _ _ x y
    (from_to-holds (record { low = max-below (≤ℤ_refl x) k; high = min-above (≤ℤ_refl x) h }))
    (from_to-holds (record { low = max-below h (≤ℤ_refl y); high = min-above k (≤ℤ_refl y) }))
at-keeps NotEqual x y e =
    let n = eq_z-no x y (not-true (eq_z x y) e) in
    kept-keeps _ _ x y (without-keeps x y n) (without-keeps y x (λ i. n (sym i)))

for-keeps : (k : Comparison) (w : Bool) (x y : ℤ) → test k x y ≡ w → Keeps (cuts_for_of k w x x y y) x y
unfolding cuts_for_of
for-keeps k true x y e = at-keeps k x y e
for-keeps Less false x y e = swapped-keeps (at-keeps AtMost y x (le-true (lt_z-no' x y e)))
for-keeps AtMost false x y e = swapped-keeps (at-keeps Less y x (lt-true (le_z-no' x y e)))
for-keeps Equal false x y e = at-keeps NotEqual x y (rw e)
for-keeps NotEqual false x y e = at-keeps Equal x y (not-false (eq_z x y) e)

-- wider cuts keep them too
pub cuts-keep : (k : Comparison) (r s : Option Interval) (x y : ℤ) → Holds r x → Holds s y → Keeps (cuts_of k (test k x y) r s) x y
unfolding cuts_of
cuts-keep k r s x y h l = on_both-holds (λ u. Keeps u x y) no_cuts_of (cuts_for_of k (test k x y)) r s x y h l (λ a b c d p q.
    wider-keeps (for-mono k (test k x y) (single-inside p) (single-inside q)) (for-keeps k (test k x y) x y refl))
