-- Entries in the order of their heads: `above` taken three times is an order of triples, heads rise by it, and so what is written can only be filed
-- by the first entry whose head isn't before it.
-- Assumes nothing.
use Prim.Native.Nat.{ℕ, zero, suc, ◌<◌}
use mathlib.Core.Path.{◌≡◌, refl, sym, ◌∙◌}
use mathlib.Core.Bool.{Bool, true, false, ◌&&◌, ◌||◌}
use mathlib.Core.List.{List}
use mathlib.Core.Logic.{⊎_elim, ◌⊎◌, inl, inr}
use native.Mathlib.Nat.{not-suc-le-zero, eq-or-lt_of_le, le_of_suc-le-suc, le_antisymm, lt_of_not-le}
use native.Mathlib.Omega.{arith}
use borrow.Author.Tests.{ltb-true, lt-ltb, le-ltb, eqb-true, eq-eqb}
use lib.Dec.{eqb, ltb}
use lib.IntN.{ℤ}
use Rattle.words.specs.First.{first_bad}
use Rattle.words.specs.Laws.{Smallest}
use Rattle.words.proofs.Bools.{clash, and_left, and_right, or_left, or_right}
use Rattle.words.proofs.FirstLaws.{first_bad-none, first_bad-smallest}
use Rattle.interval.specs.Interval.{span}
use Rattle.interval.specs.declared.Interval.{Interval}
use Rattle.rules.specs.Proposal.{entries_of, head_of}
use Rattle.rules.specs.Rules.{above, before_of, rule10, files, filed}
use Rattle.rules.proofs.SomeLaws.{only-some_below, none-some_below}
use Rattle.rules.proofs.HalvingLaws.{Falls}
use Rattle.std.specs.Prelude.{Option, None, Some}

-- ---- `above`
above-told : (a b : ℕ) (next : Bool) → above a b next ≡ true → (a < b) ⊎ ((a ≡ b) × (next ≡ true))
above-told a b next e = by (ltb a b) refl e
  where
    by : (t : Bool) → ltb a b ≡ t → t || (eqb a b && next) ≡ true → (a < b) ⊎ ((a ≡ b) × (next ≡ true))
    by true q r = inl (ltb-true a b q)
    by false q r = inr (eqb-true a b (and_left (eqb a b) next r), and_right (eqb a b) next r)

above-trans : (a b c : ℕ) {x y z : Bool} → above a b x ≡ true → above b c y ≡ true → (x ≡ true → y ≡ true → z ≡ true) → above a c z ≡ true
above-trans a b c {x} {y} {z} e q next = by (above-told a b x e) (above-told b c y q)
  where
    by : (a < b) ⊎ ((a ≡ b) × (x ≡ true)) → (b < c) ⊎ ((b ≡ c) × (y ≡ true)) → above a c z ≡ true
    by (inl l) (inl m) = or_left _ (lt-ltb a c (omega arith))
    by (inl l) (inr m) = or_left _ (lt-ltb a c (omega (arith, m.0)))
    by (inr l) (inl m) = or_left _ (lt-ltb a c (omega (arith, l.0)))
    by (inr l) (inr m) = or_right (ltb a c) (rw (eq-eqb a c (l.0 ∙ m.0)) (next l.1 m.1))

-- equal triples are not above one another
above_same : (a b c : ℕ) → above a a (above b b (ltb c c)) ≡ false
above_same a b c =
    rw (le-ltb a a (omega arith), eq-eqb a a refl, le-ltb b b (omega arith), eq-eqb b b refl, le-ltb c c (omega arith))

module _ (t w : List ℤ) where
  before-trans : (i j u s v : ℕ) → before_of t w i (head_of t w j 0) (head_of t w j 1) (head_of t w j 2) ≡ true → before_of t w j u s v ≡ true
      → before_of t w i u s v ≡ true
  unfolding before_of
  before-trans i j u s v e q =
      above-trans _ _ u e q (λ e q. above-trans _ _ s e q (λ e q.
      let l = ltb-true (head_of t w i 2) (head_of t w j 2) e in let m = ltb-true (head_of t w j 2) v q in lt-ltb (head_of t w i 2) v (omega arith)))

  -- ---- an entry files what is written only where it has its head
  record Headed (i u s v : ℕ) : Type 0 where
    pub task : head_of t w i 0 ≡ u
    pub set : head_of t w i 1 ≡ s
    pub variable : head_of t w i 2 ≡ v

  module _ (u s v : ℕ) (x : Option Interval) (i : ℕ) where
    files-headed : files t w u s v x i ≡ true → Headed i u s v
    unfolding files
    files-headed e =
        let later = and_right (eqb (head_of t w i 0) u) _ e in
        record {
          task = eqb-true (head_of t w i 0) u (and_left _ _ e);
          set = eqb-true (head_of t w i 1) s (and_left _ _ later);
          variable = eqb-true (head_of t w i 2) v (and_left _ _ (and_right (eqb (head_of t w i 1) s) _ later));
        }

    not-headed : (Headed i u s v → ⊥) → files t w u s v x i ≡ false
    not-headed none = by (files t w u s v x i) refl
      where
        by : (b : Bool) → files t w u s v x i ≡ b → b ≡ false
        by true e = absurd (none (files-headed e))
        by false e = refl

  -- a head isn't before itself
  headed-not-before : (u s v i : ℕ) → Headed i u s v → before_of t w i u s v ≡ false
  unfolding before_of
  headed-not-before u s v i h = rw (h.task, h.set, h.variable) (above_same u s v)

-- ---- heads rise
module _ (t w : List ℤ) (order : (i : ℕ) → i < entries_of w → rule10 t w i ≡ true) where
  heads-rise : (i j : ℕ) → i < j → j < entries_of w → before_of t w i (head_of t w j 0) (head_of t w j 1) (head_of t w j 2) ≡ true
  unfolding rule10
  heads-rise i zero l h = absurd (not-suc-le-zero l)
  heads-rise i (suc j) l h =
      ⊎_elim (λ e. rw e (order (suc j) h)) (λ lt. before-trans t w i j _ _ _ (heads-rise i j lt (omega arith)) (order (suc j) h))
      (eq-or-lt_of_le (le_of_suc-le-suc l))

  pub before_falls : (u s v : ℕ) → Falls (λ i. before_of t w i u s v) (entries_of w)
  before_falls u s v i j l h e = before-trans t w i j u s v (heads-rise i j l h) e

  -- ---- the first entry whose head isn't before (u, s, v), by what a search for it gave
  module _ (u s v : ℕ) {found : Option ℕ} (is : found ≡ first_bad (λ i. before_of t w i u s v) (entries_of w)) where
    smallest : (i : ℕ) → found ≡ Some i → Smallest (λ i. before_of t w i u s v) (entries_of w) i
    smallest i e = first_bad-smallest _ (entries_of w) i (sym is ∙ e)

    pub found_below : (i : ℕ) → found ≡ Some i → i < entries_of w
    found_below i e = (smallest i e).below

    -- no other entry has the head (u, s, v)
    headed-found : (i j : ℕ) → found ≡ Some i → j < entries_of w → Headed t w j u s v → j ≡ i
    headed-found i j e l h =
        le_antisymm
        (le_of_suc-le-suc (lt_of_not-le (λ after. clash (sym (rw (h.task, h.set, h.variable) at (heads-rise i j after l)) ∙ (smallest i e).fails))))
        (le_of_suc-le-suc (lt_of_not-le (λ before. clash (sym ((smallest i e).earlier j before) ∙ headed-not-before t w u s v j h))))

    -- so what is written, low..high, is filed by that entry or by none
    module _ (low high : ℤ) where
      pub none-filed : found ≡ None → false ≡ filed t w u s v (span low high)
      unfolding filed
      none-filed e =
          none-some_below _ (entries_of w)
          (λ j l. not-headed t w u s v _ j (λ h. clash (sym (first_bad-none _ (entries_of w) (sym is ∙ e) j l) ∙ headed-not-before t w u s v j h)))

      pub found-files : {b : Bool} (i : ℕ) → found ≡ Some i → b ≡ files t w u s v (span low high) i → b ≡ filed t w u s v (span low high)
      unfolding filed
      found-files i e q = q ∙ only-some_below _ (entries_of w) i (found_below i e) (λ j l f. headed-found i j e l (files-headed t w u s v _ j f))
