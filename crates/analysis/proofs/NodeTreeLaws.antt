-- The tree at a node, of arithmetic by its kind and fields, and of a condition by its shape; and the nodes below it.
-- Assumes nothing.
use Prim.Native.Nat.{ℕ, max, ◌<◌, ◌≤◌}
use mathlib.Core.Path.{◌≡◌, refl, sym, ◌∙◌}
use mathlib.Core.Bool.{true, false, ◌&&◌}
use mathlib.Core.List.{List}
use native.Mathlib.Omega.{arith}
use borrow.Author.Tests.{lt-ltb, le-ltb}
use lib.Dec.{ltb}
use lib.IntN.{ℤ}
use Rattle.interval.specs.declared.Comparison.{Comparison}
use Rattle.table.specs.declared.Shape.{Shape}
use Rattle.table.specs.declared.Shape.TheVariants.{Constant, Input, Variable, Negation, Binary, Choice, Compare, Both, Either, Not, Bad}
use Rattle.table.specs.Decode.{kept, shape_by, shape_of, kind_operation}
use Rattle.table.specs.Tree.{constant, input, variable, negation, binary, choice, no_arith, compare, both, either, is_not, no_cond, arith_by, cond_by, arith_at, cond_at}
use Rattle.table.proofs.KindLaws.{operation-below, operation-bad, leaf-high, no-arith}
use Rattle.table.proofs.TreeLaws.{children-of, arith-of, cond_of}

module _ (ns : List ℤ) (n k : ℕ) (x y : ℤ) (a b c : ℕ) (e : shape_of ns n ≡ shape_by n k x y a b c) where
  pub constant_at : k ≡ 0 → arith_at ns n ≡ constant n x
  unfolding shape_by arith_by
  constant_at h = arith-of ns n (rw h at e)

  pub input_at : k ≡ 1 → arith_at ns n ≡ input n x y
  unfolding shape_by arith_by
  input_at h = arith-of ns n (rw h at e)

  pub variable_at : k ≡ 2 → arith_at ns n ≡ variable n a
  unfolding shape_by arith_by
  variable_at h = arith-of ns n (rw h at e)

  pub negation_at : k ≡ 3 → a < n → arith_at ns n ≡ negation n (arith_at ns a)
  unfolding shape_by kept arith_by
  negation_at h l = arith-of ns n (rw (h, lt-ltb a n l) at e)

  pub negation_bad : k ≡ 3 → n ≤ a → arith_at ns n ≡ no_arith n
  unfolding shape_by kept arith_by
  negation_bad h l = arith-of ns n (rw (h, le-ltb a n l) at e)

  pub operation_at : 4 ≤ k → k ≤ 9 → (k ≡ 8 → ⊥) → ltb a n && ltb b n ≡ true → arith_at ns n ≡ binary n (kind_operation k) (arith_at ns a) (arith_at ns b)
  unfolding arith_by
  operation_at f l h t = arith-of ns n (e ∙ operation-below n x y a b c refl (record { first = f; last = l; no-choice = h }) t)

  pub operation_bad : 4 ≤ k → k ≤ 9 → (k ≡ 8 → ⊥) → ltb a n && ltb b n ≡ false → arith_at ns n ≡ no_arith n
  unfolding arith_by
  operation_bad f l h t = arith-of ns n (e ∙ operation-bad n x y a b c (record { first = f; last = l; no-choice = h }) t)

  pub choice_at : k ≡ 8 → ltb a n && (ltb b n && ltb c n) ≡ true → arith_at ns n ≡ choice n (cond_at ns a) (arith_at ns b) (arith_at ns c)
  unfolding shape_by kept arith_by
  choice_at h t = arith-of ns n (rw (h, t) at e)

  pub choice_bad : k ≡ 8 → ltb a n && (ltb b n && ltb c n) ≡ false → arith_at ns n ≡ no_arith n
  unfolding shape_by kept arith_by
  choice_bad h t = arith-of ns n (rw (h, t) at e)

  pub others_at : 10 ≤ k → arith_at ns n ≡ no_arith n
  others_at l =
      arith-of ns n e
      ∙ no-arith (arith_at ns) (cond_at ns) n x y a b c k (λ h. omega arith) (λ h. omega arith) (leaf-high (omega arith) (λ h. omega arith) (λ h. omega arith))

  pub not_at : k ≡ 22 → a < n → cond_at ns n ≡ is_not n (cond_at ns a)
  unfolding shape_by kept cond_by
  not_at h l = cond_of ns n (rw (h, lt-ltb a n l) at e)

  pub not_bad : k ≡ 22 → n ≤ a → cond_at ns n ≡ no_cond n
  unfolding shape_by kept cond_by
  not_bad h l = cond_of ns n (rw (h, le-ltb a n l) at e)

pub ruleset node_trees = (constant_at, input_at, variable_at, negation_at, negation_bad, operation_at, operation_bad, choice_at, choice_bad, others_at)

pub ruleset not_trees = (not_at, not_bad)

-- ---- conditions
module _ (ns : List ℤ) (n : ℕ) where
  pub compare_at : (k : Comparison) (a b : ℕ) → Compare k a b ≡ shape_of ns n → cond_at ns n ≡ compare n k (arith_at ns a) (arith_at ns b)
  unfolding cond_by
  compare_at k a b e = cond_of ns n (sym e)

  pub both_at : (a b : ℕ) → Both a b ≡ shape_of ns n → cond_at ns n ≡ both n (cond_at ns a) (cond_at ns b)
  unfolding cond_by
  both_at a b e = cond_of ns n (sym e)

  pub either_at : (a b : ℕ) → Either a b ≡ shape_of ns n → cond_at ns n ≡ either n (cond_at ns a) (cond_at ns b)
  unfolding cond_by
  either_at a b e = cond_of ns n (sym e)

  pub turned_at : (a : ℕ) → Not a ≡ shape_of ns n → cond_at ns n ≡ is_not n (cond_at ns a)
  unfolding cond_by
  turned_at a e = cond_of ns n (sym e)

  -- a shape of no condition
  pub no_cond_at :
      (s : Shape) → s ≡ shape_of ns n
      → ((k : Comparison) (a b : ℕ) → s ≡ Compare k a b → ⊥) → ((a b : ℕ) → s ≡ Both a b → ⊥) → ((a b : ℕ) → s ≡ Either a b → ⊥) → ((a : ℕ) → s ≡ Not a → ⊥)
      → cond_at ns n ≡ no_cond n
  unfolding cond_by
  no_cond_at (Constant z) e f g h i = cond_of ns n (sym e)
  no_cond_at (Input l m) e f g h i = cond_of ns n (sym e)
  no_cond_at (Variable v) e f g h i = cond_of ns n (sym e)
  no_cond_at (Negation a) e f g h i = cond_of ns n (sym e)
  no_cond_at (Binary op a b) e f g h i = cond_of ns n (sym e)
  no_cond_at (Choice a b c) e f g h i = cond_of ns n (sym e)
  no_cond_at (Compare k a b) e f g h i = absurd (f k a b refl)
  no_cond_at (Both a b) e f g h i = absurd (g a b refl)
  no_cond_at (Either a b) e f g h i = absurd (h a b refl)
  no_cond_at (Not a) e f g h i = absurd (i a refl)
  no_cond_at Bad e f g h i = cond_of ns n (sym e)

  -- the children's numbers are below the node's
  pub compare_below : (k : Comparison) (a b : ℕ) → Compare k a b ≡ shape_of ns n → max a b < n
  compare_below k a b e = let below = children-of ns n (sym e) in omega arith

  pub both_below : (a b : ℕ) → Both a b ≡ shape_of ns n → max a b < n
  both_below a b e = let below = children-of ns n (sym e) in omega arith

  pub either_below : (a b : ℕ) → Either a b ≡ shape_of ns n → max a b < n
  either_below a b e = let below = children-of ns n (sym e) in omega arith

  pub not_below : (a : ℕ) → Not a ≡ shape_of ns n → a < n
  not_below a e = children-of ns n (sym e)

pub ruleset condition_trees = (compare_at, both_at, either_at, turned_at, compare_below, both_below, either_below, not_below)
