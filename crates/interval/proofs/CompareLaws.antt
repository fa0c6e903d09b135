-- A decision allows the truth of what it decides, and wider operands allow more. The first is the second at operands of one number or truth.
-- Assumes nothing.
use mathlib.Core.Path.{◌≡◌, refl, sym, ◌∙◌}
use mathlib.Core.Bool.{Bool, true, false, cond, not, ◌&&◌, ◌||◌}
use lib.IntN.{ℤ}
use lib.Signed.{le_z, lt_z, ◌≤ℤ◌, ≤ℤ_refl}
use borrow.Author.Tests.{not-false}
use Rattle.interval.specs.Integer.{eq_z}
use Rattle.interval.specs.Interval.{Holds}
use Rattle.interval.specs.Lattice.{◌⊑◌}
use Rattle.interval.specs.Compare.{test, decision, neither_of, is_some, allows, if_some, both_of, either_of, opposite_of, meets_of, same_single_of, decide_of, compare_of}
use Rattle.interval.specs.Laws.{Allows}
use Rattle.interval.specs.declared.Interval.{Interval}
use Rattle.interval.specs.declared.Decision.{Decision}
use Rattle.interval.specs.declared.Comparison.{Comparison}
use Rattle.interval.specs.declared.Comparison.TheVariants.{Less, AtMost, Equal, NotEqual}
use Rattle.interval.proofs.IntegerLaws.{≤_trans, ≤-<-trans, <-≤-trans, le-true, lt-true, le_z-yes', le_z-no', lt_z-yes', lt_z-no', and_left, and_right, eq_z-yes, eq_z-true, clash}
use Rattle.interval.proofs.IntervalLaws.{Inside, single-inside, inside-single, on_both-holds}
use Rattle.interval.proofs.LatticeLaws.{on_both-mono}
use Rattle.std.specs.Prelude.{Option}

-- ---- tests that grow
and_mono : (s t s' t' : Bool) → (s ≡ true → s' ≡ true) → (t ≡ true → t' ≡ true) → s && t ≡ true → s' && t' ≡ true
and_mono s t s' t' f g e = rw (f (and_left s t e), g (and_right s t e))

or_mono : (s t s' t' : Bool) → (s ≡ true → s' ≡ true) → (t ≡ true → t' ≡ true) → s || t ≡ true → s' || t' ≡ true
or_mono true t s' t' f g e = rw (f refl)
or_mono false t true t' f g e = refl
or_mono false t false t' f g e = g e

not-anti : (s t : Bool) → (t ≡ true → s ≡ true) → not s ≡ true → not t ≡ true
not-anti s true f e = rw (f refl) at e
not-anti s false f e = refl

-- ---- decisions that allow more
-- from its two truths
allows-by : (d e : Decision) → (d.yes ≡ true → e.yes ≡ true) → (d.no ≡ true → e.no ≡ true) → Allows d e
allows-by d e f g = record { truth = by }
  where
    by : (b : Bool) → allows d b ≡ true → allows e b ≡ true
    by true = f
    by false = g

neither-least : (d : Decision) → Allows neither_of d
neither-least d = allows-by neither_of d (λ e. clash (sym e)) (λ e. clash (sym e))

-- the decision for one truth only
abbrev only : Bool → Decision
only t = decision t (not t)

only-least : (d : Decision) (t : Bool) → allows d t ≡ true → Allows (only t) d
only-least d true h = allows-by (only true) d (λ _. h) (λ e. clash (sym e))
only-least d false h = allows-by (only false) d (λ e. clash (sym e)) (λ _. h)

-- ---- combinations
-- a combination of decisions grows with its sides, and allows what the truths of its sides give
abbrev pub Grows : (Decision → Decision → Decision) → Type 0
Grows F = (d d' e e' : Decision) → Allows d d' → Allows e e' → Allows (F d e) (F d' e')

abbrev pub Gives : (Decision → Decision → Decision) → (Bool → Bool → Bool) → Type 0
Gives F o = (d e : Decision) (s t : Bool) → allows d s ≡ true → allows e t ≡ true → allows (F d e) (o s t) ≡ true

-- the second follows once it does for one truth on each side
by_one : (F : Decision → Decision → Decision) (o : Bool → Bool → Bool) → Grows F → ((s t : Bool) → allows (F (only s) (only t)) (o s t) ≡ true) → Gives F o
by_one F o mono one d e s t p q = (mono (only s) d (only t) e (only-least d s p) (only-least e t q)).truth (o s t) (one s t)

some_mono : (d d' : Decision) → Allows d d' → is_some d ≡ true → is_some d' ≡ true
some_mono d d' p = or_mono d.yes d.no d'.yes d'.no (p.truth true) (p.truth false)

if_some-mono : (d d' e e' x x' : Decision) → Allows d d' → Allows e e' → Allows x x' → Allows (if_some d e x) (if_some d' e' x')
if_some-mono d d' e e' x x' p q w = by (is_some d && is_some e) (is_some d' && is_some e') (and_mono (is_some d) (is_some e) (is_some d') (is_some e') (some_mono d d' p) (some_mono e e' q))
  where
    by : (s t : Bool) → (s ≡ true → t ≡ true) → Allows (cond s x neither_of) (cond t x' neither_of)
    by true t f = rw (f refl) w
    by false t f = neither-least (cond t x' neither_of)

pub both-mono : Grows both_of
unfolding both_of
both-mono d d' e e' p q = if_some-mono d d' e e' _ _ p q (allows-by _ _
    (and_mono d.yes e.yes d'.yes e'.yes (p.truth true) (q.truth true))
    (or_mono d.no e.no d'.no e'.no (p.truth false) (q.truth false)))

pub either-mono : Grows either_of
unfolding either_of
either-mono d d' e e' p q = if_some-mono d d' e e' _ _ p q (allows-by _ _
    (or_mono d.yes e.yes d'.yes e'.yes (p.truth true) (q.truth true))
    (and_mono d.no e.no d'.no e'.no (p.truth false) (q.truth false)))

pub opposite-mono : (d d' : Decision) → Allows d d' → Allows (opposite_of d) (opposite_of d')
unfolding opposite_of
opposite-mono d d' p = allows-by _ _ (p.truth false) (p.truth true)

pub both-allows : Gives both_of ◌&&◌
unfolding both_of
both-allows = by_one both_of ◌&&◌ both-mono one
  where
    one : (s t : Bool) → allows (both_of (only s) (only t)) (s && t) ≡ true
    one true true = refl
    one true false = refl
    one false true = refl
    one false false = refl

pub either-allows : Gives either_of ◌||◌
unfolding either_of
either-allows = by_one either_of ◌||◌ either-mono one
  where
    one : (s t : Bool) → allows (either_of (only s) (only t)) (s || t) ≡ true
    one true true = refl
    one true false = refl
    one false true = refl
    one false false = refl

pub opposite-allows : (d : Decision) (t : Bool) → allows d t ≡ true → allows (opposite_of d) (not t) ≡ true
unfolding opposite_of
opposite-allows d true h = h
opposite-allows d false h = h

-- ---- comparisons of intervals: what each test of the ends asks stays true for wider ends
le-mono : {a b a' b' : ℤ} → a' ≤ℤ a → b ≤ℤ b' → le_z a b ≡ true → le_z a' b' ≡ true
le-mono {a} {b} h k e = le-true (≤_trans h (≤_trans (le_z-yes' a b e) k))

lt-mono : {a b a' b' : ℤ} → a' ≤ℤ a → b ≤ℤ b' → lt_z a b ≡ true → lt_z a' b' ≡ true
lt-mono {a} {b} h k e = lt-true (≤-<-trans h (<-≤-trans (lt_z-yes' a b e) k))

module _ {a b c d a' b' c' d' : ℤ} (i : Inside a b a' b') (j : Inside c d c' d') where
  meets-mono : meets_of a b c d ≡ true → meets_of a' b' c' d' ≡ true
  meets-mono = and_mono (le_z a d) (le_z c b) (le_z a' d') (le_z c' b') (le-mono i.low j.high) (le-mono j.low i.high)

  -- one number alone has no other within it
  same-anti : same_single_of a' b' c' d' ≡ true → same_single_of a b c d ≡ true
  same-anti e =
      let rest : eq_z c' d' && eq_z a' c' ≡ true = and_right (eq_z a' b') (eq_z c' d' && eq_z a' c') e in
      let p : (a ≡ a') × (b ≡ a') = inside-single i (eq_z-yes a' b' (and_left (eq_z a' b') (eq_z c' d' && eq_z a' c') e)) in
      let q : (c ≡ c') × (d ≡ c') = inside-single j (eq_z-yes c' d' (and_left (eq_z c' d') (eq_z a' c') rest)) in
      let ac : a' ≡ c' = eq_z-yes a' c' (and_right (eq_z c' d') (eq_z a' c') rest) in
      rw (eq_z-true (p.0 ∙ sym p.1), eq_z-true (q.0 ∙ sym q.1), eq_z-true (p.0 ∙ ac ∙ sym q.0))

  differ-mono : not (same_single_of a b c d) ≡ true → not (same_single_of a' b' c' d') ≡ true
  differ-mono = not-anti (same_single_of a b c d) (same_single_of a' b' c' d') same-anti

  decide-mono : (k : Comparison) → Allows (decide_of k a b c d) (decide_of k a' b' c' d')
  unfolding decide_of
  decide-mono Less = allows-by _ _ (lt-mono i.low j.high) (le-mono j.low i.high)
  decide-mono AtMost = allows-by _ _ (le-mono i.low j.high) (lt-mono j.low i.high)
  decide-mono Equal = allows-by _ _ meets-mono differ-mono
  decide-mono NotEqual = allows-by _ _ differ-mono meets-mono

pub compare-mono : (k : Comparison) (r r' s s' : Option Interval) → r ⊑ r' → s ⊑ s' → Allows (compare_of k r s) (compare_of k r' s')
unfolding compare_of
compare-mono k r r' s s' h l = on_both-mono Allows neither_of neither-least (decide_of k) r r' s s' h l (λ a b c d a' b' c' d' i j. decide-mono i j k)

-- of two numbers the one truth is allowed
decide-single : (k : Comparison) (x y : ℤ) (t : Bool) → test k x y ≡ t → allows (decide_of k x x y y) t ≡ true
unfolding decide_of eq_z
decide-single Less x y true e = e
decide-single Less x y false e = le-true (lt_z-no' x y e)
decide-single AtMost x y true e = e
decide-single AtMost x y false e = lt-true (le_z-no' x y e)
decide-single Equal x y true e = e
decide-single Equal x y false e = rw (le-true (≤ℤ_refl x), le-true (≤ℤ_refl y), e)
decide-single NotEqual x y true e = rw (le-true (≤ℤ_refl x), le-true (≤ℤ_refl y)) e
decide-single NotEqual x y false e = not-false (le_z x y && le_z y x) e

pub compare-allows : (k : Comparison) (r s : Option Interval) (x y : ℤ) → Holds r x → Holds s y → allows (compare_of k r s) (test k x y) ≡ true
unfolding compare_of
compare-allows k r s x y h l = on_both-holds (λ d. allows d (test k x y) ≡ true) neither_of (decide_of k) r s x y h l (λ a b c d p q.
    (decide-mono (single-inside p) (single-inside q) k).truth (test k x y) (decide-single k x y (test k x y) refl))
