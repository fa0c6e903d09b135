-- Where an evaluation ends: at no earlier position in the schedule than it started from, and, where it ends in an error, at one of the nodes and
-- with one of the two kinds.
-- Assumes nothing.
use Prim.Native.Nat.{ℕ, zero, suc, ◌*◌, ◌/◌, ◌<◌, ◌≤◌}
use mathlib.Core.Path.{◌≡◌, refl, sym, ◌∙◌}
use mathlib.Core.Logic.{◌⊎◌, inl, inr, ⊎_elim}
use mathlib.Core.Bool.{Bool, true, false}
use mathlib.Core.List.{List}
use native.Mathlib.Omega.{arith}
use borrow.Author.Tests.{ltb-true}
use lib.Dec.{ltb}
use lib.IntN.{ℤ, pos}
use lib.ListN.{length}
use Rattle.words.specs.Words.{number_of}
use Rattle.interval.specs.Arithmetic.{exact, by_zero, is_word}
use Rattle.table.specs.declared.Shape.{Shape}
use Rattle.table.specs.declared.Shape.TheVariants.{Constant, Input, Variable, Negation, Binary, Choice, Compare, Both, Either, Not, Bad}
use Rattle.table.specs.Layout.{four_of, four_by}
use Rattle.table.specs.Decode.{shape_by, shape_from, shape_of}
use Rattle.table.specs.Tree.{Arith, Cond, arith_by, cond_by, arith_f, cond_f, arith_at, cond_at}
use Rattle.table.specs.Meaning.{followed_by, fit, fit_by, perform, perform_by, input_by, branch, result, truth, Evaluation, gives, stops}

-- an evaluation that started at the position p ended, with an error of a kind at a node below b alone
abbrev pub Ends : ℕ → ℕ → Evaluation ℤ → Type 0
Ends b p (gives z q) = p ≤ q
Ends b p (stops n k q) = (p ≤ q) × (n < b) × (k ≤ 2)

abbrev pub Tells : ℕ → ℕ → Evaluation Bool → Type 0
Tells b p (gives t q) = p ≤ q
Tells b p (stops n k q) = (p ≤ q) × (n < b) × (k ≤ 2)

module _ (b : ℕ) where
  -- ---- one thing after another
  ends-from : (p q : ℕ) (r : Evaluation ℤ) → p ≤ q → Ends b q r → Ends b p r
  ends-from p q (gives z s) l h = omega arith
  ends-from p q (stops n k s) l h = (omega (arith, h.0), h.1, h.2)

  tells-from : (p q : ℕ) (r : Evaluation Bool) → p ≤ q → Tells b q r → Tells b p r
  tells-from p q (gives t s) l h = omega arith
  tells-from p q (stops n k s) l h = (omega (arith, h.0), h.1, h.2)

  value-then : (p : ℕ) (r : Evaluation ℤ) (f : ℤ → ℕ → Evaluation ℤ) → Ends b p r → ((z : ℤ) (q : ℕ) → Ends b q (f z q)) → Ends b p (followed_by r f)
  unfolding followed_by
  value-then p (gives z q) f h k = ends-from p q (f z q) h (k z q)
  value-then p (stops n e q) f h k = h

  value-then-tell : (p : ℕ) (r : Evaluation ℤ) (f : ℤ → ℕ → Evaluation Bool) → Ends b p r → ((z : ℤ) (q : ℕ) → Tells b q (f z q)) → Tells b p (followed_by r f)
  unfolding followed_by
  value-then-tell p (gives z q) f h k = tells-from p q (f z q) h (k z q)
  value-then-tell p (stops n e q) f h k = h

  truth-then : (p : ℕ) (r : Evaluation Bool) (f : Bool → ℕ → Evaluation Bool) → Tells b p r → ((t : Bool) (q : ℕ) → Tells b q (f t q)) → Tells b p (followed_by r f)
  unfolding followed_by
  truth-then p (gives t q) f h k = tells-from p q (f t q) h (k t q)
  truth-then p (stops n e q) f h k = h

  truth-then-give :
      (p : ℕ) (r : Evaluation Bool) (f : Bool → ℕ → Evaluation ℤ) → Tells b p r → ((t : Bool) (q : ℕ) → Ends b q (f t q)) → Ends b p (followed_by r f)
  unfolding followed_by
  truth-then-give p (gives t q) f h k = ends-from p q (f t q) h (k t q)
  truth-then-give p (stops n e q) f h k = h

  -- ---- one node
  fit-ends : (w : Bool) (n : ℕ) (z : ℤ) (p : ℕ) → n < b → Ends b p (fit_by w n z p)
  unfolding fit_by
  fit-ends true n z p l = omega arith
  fit-ends false n z p l = (omega arith, l, omega arith)

  perform-ends : (w : Bool) (n : ℕ) (z : ℤ) (p : ℕ) → n < b → Ends b p (perform_by w n z p)
  unfolding perform_by fit
  perform-ends true n z p l = (omega arith, l, omega arith)
  perform-ends false n z p l = fit-ends (is_word z) n z p l

  input-ends : (w : Bool) (l h v : ℤ) (p : ℕ) → Ends b p (input_by w l h v p)
  unfolding input_by
  input-ends true l h v p = omega arith
  input-ends false l h v p = omega arith

  branch-ends : (t : Bool) (f g : ℕ → Evaluation ℤ) (p : ℕ) → ((q : ℕ) → Ends b q (f q)) → ((q : ℕ) → Ends b q (g q)) → Ends b p (branch t f g p)
  unfolding branch
  branch-ends true f g p h k = h p
  branch-ends false f g p h k = k p

-- ---- a tree, from its children's
module _
    (vs ws : List ℤ) (b : ℕ) (a : ℕ → Arith) (c : ℕ → Cond) (ends : (m p : ℕ) → Ends b p (result (a m) vs ws p))
    (tells : (m p : ℕ) → Tells b p (truth (c m) vs ws p)) where
  arith-ends : (n : ℕ) (s : Shape) → n < b → (p : ℕ) → Ends b p (result (arith_by a c n s) vs ws p)
  unfolding arith_by result fit perform
  arith-ends n (Constant z) l p = omega arith
  arith-ends n (Input x y) l p = input-ends b (ltb p (length ws)) x y _ p
  arith-ends n (Variable v) l p = omega arith
  arith-ends n (Negation x) l p = value-then b p (result (a x) vs ws p) _ (ends x p) (λ z q. fit-ends b _ n _ q l)
  arith-ends n (Binary op x y) l p =
      value-then b p (result (a x) vs ws p) _ (ends x p)
      (λ z q. value-then b q (result (a y) vs ws q) _ (ends y q) (λ w s. perform-ends b (by_zero op w) n (exact op z w) s l))
  arith-ends n (Choice d x y) l p = truth-then-give b p (truth (c d) vs ws p) _ (tells d p) (λ t q. branch-ends b t _ _ q (ends x) (ends y))
  arith-ends n (Compare k x y) l p = omega arith
  arith-ends n (Both x y) l p = omega arith
  arith-ends n (Either x y) l p = omega arith
  arith-ends n (Not x) l p = omega arith
  arith-ends n Bad l p = omega arith

  cond-tells : (n : ℕ) (s : Shape) (p : ℕ) → Tells b p (truth (cond_by a c n s) vs ws p)
  unfolding cond_by result
  cond-tells n (Constant z) p = omega arith
  cond-tells n (Input x y) p = omega arith
  cond-tells n (Variable v) p = omega arith
  cond-tells n (Negation x) p = omega arith
  cond-tells n (Binary op x y) p = omega arith
  cond-tells n (Choice d x y) p = omega arith
  cond-tells n (Compare k x y) p =
      value-then-tell b p (result (a x) vs ws p) _ (ends x p) (λ z q. value-then-tell b q (result (a y) vs ws q) _ (ends y q) (λ w s. omega arith))
  cond-tells n (Both x y) p =
      truth-then b p (truth (c x) vs ws p) _ (tells x p) (λ t q. truth-then b q (truth (c y) vs ws q) _ (tells y q) (λ u s. omega arith))
  cond-tells n (Either x y) p =
      truth-then b p (truth (c x) vs ws p) _ (tells x p) (λ t q. truth-then b q (truth (c y) vs ws q) _ (tells y q) (λ u s. omega arith))
  cond-tells n (Not x) p = truth-then b p (truth (c x) vs ws p) _ (tells x p) (λ t q. omega arith)
  cond-tells n Bad p = omega arith

-- ---- the trees of nodes; past the last node stands a constant, which is no error
module _ (ns : List ℤ) (n : ℕ) where
  shape-past : (t : Bool) → ltb n (length ns / 4) ≡ t → (n < length ns / 4) ⊎ (shape_from n (four_by t ns (4 * n)) ≡ Constant (pos 0))
  unfolding four_by shape_from shape_by number_of
  shape-past true e = inl (ltb-true n _ e)
  shape-past false e = inr refl

  here-or-past : (n < length ns / 4) ⊎ (shape_of ns n ≡ Constant (pos 0))
  unfolding four_of
  here-or-past = shape-past _ refl

module _ (ns vs ws : List ℤ) where
  fuel-ends :
      (f n p : ℕ) →
      Ends (length ns / 4) p (result (arith_f f (shape_of ns) n) vs ws p) ×
      Tells (length ns / 4) p (truth (cond_f f (shape_of ns) n) vs ws p)
  unfolding arith_f arith_by result
  fuel-ends zero n p = (omega arith, omega arith)
  fuel-ends (suc f) n p =
      let ends : (m q : ℕ) → Ends (length ns / 4) q (result (arith_f f (shape_of ns) m) vs ws q) = λ m q. (fuel-ends f m q).0 in
      let tells : (m q : ℕ) → Tells (length ns / 4) q (truth (cond_f f (shape_of ns) m) vs ws q) = λ m q. (fuel-ends f m q).1 in (
        ⊎_elim (λ l. arith-ends vs ws _ _ _ ends tells n (shape_of ns n) l p) (λ e. rw e (omega arith)) (here-or-past ns n),
        cond-tells vs ws _ _ _ ends tells n (shape_of ns n) p,
      )

  pub result-ends : (n p : ℕ) → Ends (length ns / 4) p (result (arith_at ns n) vs ws p)
  unfolding arith_at
  result-ends n p = (fuel-ends (suc n) n p).0

  pub truth-tells : (n p : ℕ) → Tells (length ns / 4) p (truth (cond_at ns n) vs ws p)
  unfolding cond_at
  truth-tells n p = (fuel-ends (suc n) n p).1

  -- of an error that the code met
  pub error-inside : (e p : ℕ) {n k q : ℕ} {r : Evaluation ℤ} → r ≡ result (arith_at ns e) vs ws p → r ≡ stops n k q → (n < length ns / 4) × (k ≤ 2)
  error-inside e p h i = let l = rw (sym h ∙ i) at (result-ends e p) in (l.1, l.2)

  pub failure-inside : (c p : ℕ) {n k q : ℕ} {r : Evaluation Bool} → r ≡ truth (cond_at ns c) vs ws p → r ≡ stops n k q → (n < length ns / 4) × (k ≤ 2)
  failure-inside c p h i = let l = rw (sym h ∙ i) at (truth-tells c p) in (l.1, l.2)
