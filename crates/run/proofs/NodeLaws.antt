-- What an evaluation comes to at a node, by the number of the node's kind: one step from what its children come to.
-- Assumes nothing.
use Prim.Native.Nat.{ℕ, ◌<◌, ◌≤◌}
use mathlib.Core.Path.{◌≡◌, refl, ◌∙◌}
use mathlib.Core.Bool.{true, false, not, ◌&&◌}
use mathlib.Core.List.{List}
use native.Mathlib.Omega.{arith}
use borrow.Author.Tests.{lt-ltb}
use lib.Dec.{ltb}
use lib.IntN.{ℤ, pos, neg_ℤ}
use lib.ListN.{length}
use Rattle.std.proofs.lemmas.Grind.{common_steps}
use Rattle.interval.specs.Compare.{test}
use Rattle.words.specs.Words.{word_of}
use Rattle.table.specs.Decode.{kept, comparison_of, shape_by, shape_from, node_from, node_of, kind_operation, kind_comparison}
use Rattle.table.specs.Tree.{Arith, Cond, arith_by, cond_by, arith_at, cond_at}
use Rattle.table.specs.Meaning.{followed_by, fit, perform, input_by, branch, result, truth, gives}
use Rattle.table.proofs.KindLaws.{leaf-high, constant-shape, input-shape, variable-shape, negation-below, negation-bad, operation-below, operation-bad, choice-below, choice-bad, comparison-shape, pair-shape, pair_shape, not-shape, no-arith, no-cond}
use Rattle.table.proofs.TreeLaws.{arith_is, cond-is, arith-of, cond_of}
use Rattle.run.specs.Codes.{kind_pair}

-- ---- a node that is no arithmetic or no condition, or has a child that is not below it
module _ (f : ℕ → Arith) (g : ℕ → Cond) (n k : ℕ) (x y : ℤ) (a b c : ℕ) (vs ws : List ℤ) (p : ℕ) where
  none_result :
      (k ≡ 0 → ⊥) → (k ≡ 1 → ⊥) → (k ≡ 2 → ⊥) → (k ≡ 3 → n ≤ a) → (4 ≤ k → k ≤ 9 → (k ≡ 8 → ⊥) → ltb a n && ltb b n ≡ false) →
      (k ≡ 8 → ltb a n && (ltb b n && ltb c n) ≡ false) → result (arith_by f g n (shape_by n k x y a b c)) vs ws p ≡ gives (pos 0) p
  unfolding arith_by result shape_by kept
  none_result constant input variable negation operation choice = grind (arith, common_steps)

  none_truth :
      (16 ≤ k → k < 22 → ltb a n && ltb b n ≡ false) → (k ≡ 22 → n ≤ a) → truth (cond_by f g n (shape_by n k x y a b c)) vs ws p ≡ gives false p
  unfolding cond_by result shape_by kept
  none_truth pair negation = grind (arith, common_steps)

module _ (ns vs ws : List ℤ) (n p : ℕ) where
  -- ---- arithmetic
  pub constant_result : (node_of ns n).kind ≡ 0 → result (arith_at ns n) vs ws p ≡ gives (node_of ns n).x p
  unfolding node_from shape_from arith_by result
  constant_result h = rw (arith-of ns n (constant-shape n _ _ _ _ _ h))

  pub input_result : (node_of ns n).kind ≡ 1 → result (arith_at ns n) vs ws p ≡ input_by (ltb p (length ws)) (node_of ns n).x (node_of ns n).y (word_of ws p) p
  unfolding node_from shape_from arith_by result
  input_result h = rw (arith-of ns n (input-shape n _ _ _ _ _ h))

  pub variable_result : (node_of ns n).kind ≡ 2 → result (arith_at ns n) vs ws p ≡ gives (word_of vs (node_of ns n).a) p
  unfolding node_from shape_from arith_by result
  variable_result h = rw (arith-of ns n (variable-shape n _ _ _ _ _ h))

  pub negation_result :
      (node_of ns n).kind ≡ 3 → (node_of ns n).a < n →
      result (arith_at ns n) vs ws p ≡ followed_by (result (arith_at ns (node_of ns n).a) vs ws p) (λ z q. fit n (neg_ℤ z) q)
  unfolding node_from shape_from arith_by result
  negation_result h l = rw (arith-of ns n (negation-below n _ _ _ _ _ h l))

  pub operation_result :
      4 ≤ (node_of ns n).kind → (node_of ns n).kind ≤ 9 → ((node_of ns n).kind ≡ 8 → ⊥) → ltb (node_of ns n).a n && ltb (node_of ns n).b n ≡ true →
      result (arith_at ns n) vs ws p
      ≡ followed_by (result (arith_at ns (node_of ns n).a) vs ws p)
      (λ z q. followed_by (result (arith_at ns (node_of ns n).b) vs ws q) (λ w r. perform n (kind_operation (node_of ns n).kind) z w r))
  unfolding node_from shape_from arith_by result
  operation_result f l h t = rw (arith-of ns n (operation-below n _ _ _ _ _ refl (record { first = f; last = l; no-choice = h }) t))

  pub choice_result :
      (node_of ns n).kind ≡ 8 → ltb (node_of ns n).a n && (ltb (node_of ns n).b n && ltb (node_of ns n).c n) ≡ true →
      result (arith_at ns n) vs ws p
      ≡ followed_by (truth (cond_at ns (node_of ns n).a) vs ws p)
      (λ t q. branch t (λ r. result (arith_at ns (node_of ns n).b) vs ws r) (λ r. result (arith_at ns (node_of ns n).c) vs ws r) q)
  unfolding node_from shape_from arith_by result
  choice_result h t = rw (arith-of ns n (choice-below n _ _ _ _ _ h t))

  -- no arithmetic, or a child that is not below the node
  pub no_result :
      ((node_of ns n).kind ≡ 0 → ⊥) → ((node_of ns n).kind ≡ 1 → ⊥) → ((node_of ns n).kind ≡ 2 → ⊥) → ((node_of ns n).kind ≡ 3 → n ≤ (node_of ns n).a) →
      (4 ≤ (node_of ns n).kind → (node_of ns n).kind ≤ 9 → ((node_of ns n).kind ≡ 8 → ⊥) → ltb (node_of ns n).a n && ltb (node_of ns n).b n ≡ false) →
      ((node_of ns n).kind ≡ 8 → ltb (node_of ns n).a n && (ltb (node_of ns n).b n && ltb (node_of ns n).c n) ≡ false) →
      result (arith_at ns n) vs ws p ≡ gives (pos 0) p
  unfolding node_from shape_from
  no_result constant input variable negation operation choice = rw (arith_is ns n) (none_result _ _ n _ _ _ _ _ _ vs ws p constant input variable negation operation choice)

  -- ---- conditions
  pub comparison_truth :
      16 ≤ (node_of ns n).kind → (node_of ns n).kind < 20 → ltb (node_of ns n).a n && ltb (node_of ns n).b n ≡ true →
      truth (cond_at ns n) vs ws p
      ≡ followed_by (result (arith_at ns (node_of ns n).a) vs ws p)
      (λ z q. followed_by (result (arith_at ns (node_of ns n).b) vs ws q) (λ w r. gives (test (kind_comparison (node_of ns n).kind) z w) r))
  unfolding node_from shape_from kept cond_by result
  comparison_truth f l t = rw (cond_of ns n (comparison-shape n _ _ _ _ _ _ f l), t)

  pub pair_truth :
      20 ≤ (node_of ns n).kind → (node_of ns n).kind < 22 → ltb (node_of ns n).a n && ltb (node_of ns n).b n ≡ true →
      truth (cond_at ns n) vs ws p
      ≡ followed_by (truth (cond_at ns (node_of ns n).a) vs ws p)
      (λ t q. followed_by (truth (cond_at ns (node_of ns n).b) vs ws q) (λ u r. gives (kind_pair (node_of ns n).kind t u) r))
  unfolding node_from shape_from kept pair_shape cond_by result kind_pair
  pair_truth f l t = rw (cond_of ns n (pair-shape n _ _ _ _ _ _ f l), t) (grind (arith, common_steps))

  pub not_truth :
      (node_of ns n).kind ≡ 22 → (node_of ns n).a < n →
      truth (cond_at ns n) vs ws p ≡ followed_by (truth (cond_at ns (node_of ns n).a) vs ws p) (λ t q. gives (not t) q)
  unfolding node_from shape_from kept cond_by result
  not_truth h l = rw (cond_of ns n (not-shape n _ _ _ _ _ h), lt-ltb _ n l)

  -- no condition, or a child that is not below the node
  pub no_truth :
      (16 ≤ (node_of ns n).kind → (node_of ns n).kind < 22 → ltb (node_of ns n).a n && ltb (node_of ns n).b n ≡ false) →
      ((node_of ns n).kind ≡ 22 → n ≤ (node_of ns n).a) → truth (cond_at ns n) vs ws p ≡ gives false p
  unfolding node_from shape_from
  no_truth pair negation = rw (cond-is ns n) (none_truth _ _ n _ _ _ _ _ _ vs ws p pair negation)

pub ruleset node_results =
    (constant_result, input_result, variable_result, negation_result, operation_result, choice_result, no_result, comparison_truth, pair_truth, not_truth, no_truth)
