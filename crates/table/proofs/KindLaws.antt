-- The shape of a node from the number of its kind, where the kinds are told apart by ranges, and from the words at the node; and what holds of it,
-- whatever the kind.
-- Assumes nothing.
use Prim.Native.Nat.{ℕ, ◌+◌, ◌*◌, ◌<◌, ◌≤◌}
use mathlib.Core.Path.{◌≡◌}
use mathlib.Core.Bool.{true, false, ◌&&◌}
use mathlib.Core.List.{List}
use native.Mathlib.Omega.{arith}
use lib.Dec.{eqb, ltb}
use lib.IntN.{ℤ}
use lib.ListN.{length}
use Rattle.std.proofs.lemmas.Grind.{common_steps}
use Rattle.interval.specs.declared.Operation.{Operation}
use Rattle.interval.specs.declared.Comparison.{Comparison}
use Rattle.words.specs.Words.{word_of, number_at}
use Rattle.table.specs.declared.Shape.{Shape}
use Rattle.table.specs.declared.Shape.TheVariants.{Constant, Input, Variable, Negation, Binary, Choice, Compare, Both, Either, Not, Bad}
use Rattle.table.specs.Layout.{four_by, four_of}
use Rattle.table.specs.Decode.{pick, kept, comparison_of, shape_by, shape_from, shape_of, Leaf, kind_operation, kind_comparison}
use Rattle.table.specs.Tree.{Arith, Cond, no_arith, no_cond, arith_by, cond_by}

-- ---- the words at a node
-- where the words are whole fours, those past the last are 0 as any word past the end is
pub four-words : (ws : List ℤ) (m : ℕ) → length ws ≡ 4 * m → (n : ℕ) → four_of ws n ≡ four_by true ws (4 * n)
unfolding four_of four_by
four-words ws m e n = grind (arith, common_steps)

pub node-shape :
    (ws : List ℤ) → length ws ≡ 4096 → (n : ℕ) {k a b c : ℕ} →
    k ≡ number_at ws (4 * n) → a ≡ number_at ws (4 * n + 1) → b ≡ number_at ws (4 * n + 2) → c ≡ number_at ws (4 * n + 3) →
    shape_of ws n ≡ shape_by n k (word_of ws (4 * n + 1)) (word_of ws (4 * n + 2)) a b c
unfolding shape_from four_by
node-shape ws e n ek ea eb ec = rw (four-words ws 1024 e n, ek, ea, eb, ec)

-- ---- children
pub both_below : (n a b : ℕ) → ltb a n && ltb b n ≡ true → (a < n) × (b < n)
both_below n a b e = grind (arith, common_steps)

pub all-below : (n a b c : ℕ) → ltb a n && (ltb b n && ltb c n) ≡ true → (a < n) × (b < n) × (c < n)
all-below n a b c e = grind (arith, common_steps)

-- ---- kinds in ranges
-- k is the kind of an operation
pub record Operates (k : ℕ) : Type 0 where
  pub first : 4 ≤ k
  pub last : k ≤ 9
  pub no-choice : k ≡ 8 → ⊥

pub leaf-high : {k : ℕ} → 8 ≤ k → (k ≡ 8 → ⊥) → (k ≡ 9 → ⊥) → Leaf k
leaf-high h choice remainder = record { no-input = omega arith; no-parent = omega arith }

-- both, or either
unfoldable pub pair_shape : ℕ → ℕ → ℕ → Shape
pair_shape k a b = pick (eqb k 20) (Both a b) (Either a b)

module _ (n : ℕ) (x y : ℤ) (a b c : ℕ) where
  pub constant-shape : {k : ℕ} → k ≡ 0 → shape_by n k x y a b c ≡ Constant x
  unfolding shape_by
  constant-shape e = rw e

  pub input-shape : {k : ℕ} → k ≡ 1 → shape_by n k x y a b c ≡ Input x y
  unfolding shape_by
  input-shape e = rw e

  pub variable-shape : {k : ℕ} → k ≡ 2 → shape_by n k x y a b c ≡ Variable a
  unfolding shape_by
  variable-shape e = rw e

  pub not-shape : {k : ℕ} → k ≡ 22 → shape_by n k x y a b c ≡ kept (ltb a n) (Not a)
  unfolding shape_by
  not-shape e = rw e

  pub comparison-shape : (k : ℕ) → 16 ≤ k → k < 20 → shape_by n k x y a b c ≡ comparison_of (kind_comparison k) n a b
  unfolding shape_by kind_comparison
  comparison-shape k f h = grind (arith, common_steps)

  pub pair-shape : (k : ℕ) → 20 ≤ k → k < 22 → shape_by n k x y a b c ≡ kept (ltb a n && ltb b n) (pair_shape k a b)
  unfolding shape_by pair_shape
  pair-shape k f h = grind (arith, common_steps)

  -- where the children are below the node, and where one is not
  pub negation-below : {k : ℕ} → k ≡ 3 → a < n → shape_by n k x y a b c ≡ Negation a
  unfolding shape_by kept
  negation-below e l = grind (arith, common_steps)

  pub negation-bad : {k : ℕ} → k ≡ 3 → n ≤ a → shape_by n k x y a b c ≡ Bad
  unfolding shape_by kept
  negation-bad e l = grind (arith, common_steps)

  pub operation-below : {k : ℕ} {op : Operation} → op ≡ kind_operation k → Operates k → ltb a n && ltb b n ≡ true → shape_by n k x y a b c ≡ Binary op a b
  unfolding shape_by kept kind_operation
  operation-below o e l = grind (arith, common_steps)

  pub operation-bad : {k : ℕ} → Operates k → ltb a n && ltb b n ≡ false → shape_by n k x y a b c ≡ Bad
  unfolding shape_by kept kind_operation
  operation-bad e l = grind (arith, common_steps)

  pub choice-below : {k : ℕ} → k ≡ 8 → ltb a n && (ltb b n && ltb c n) ≡ true → shape_by n k x y a b c ≡ Choice a b c
  unfolding shape_by kept
  choice-below e l = grind (arith, common_steps)

  pub choice-bad : {k : ℕ} → k ≡ 8 → ltb a n && (ltb b n && ltb c n) ≡ false → shape_by n k x y a b c ≡ Bad
  unfolding shape_by kept
  choice-bad e l = grind (arith, common_steps)

-- ---- what holds of the shape of k
-- P holds of the shape of each kind that k can be, whose children are below the node n, and of none
pub record Cases (P : Shape → Type 0) (n k : ℕ) (x y : ℤ) (a b c : ℕ) : Type 0 where
  pub constant : k ≡ 0 → P (Constant x)
  pub input : k ≡ 1 → P (Input x y)
  pub variable : k ≡ 2 → P (Variable a)
  pub negation : k ≡ 3 → a < n → P (Negation a)
  pub binary : (op : Operation) → Operates k → (a < n) × (b < n) → P (Binary op a b)
  pub choice : k ≡ 8 → (a < n) × (b < n) × (c < n) → P (Choice a b c)
  pub comparison : (q : Comparison) → 16 ≤ k → k < 20 → (a < n) × (b < n) → P (Compare q a b)
  pub both : k ≡ 20 → (a < n) × (b < n) → P (Both a b)
  pub either : k ≡ 21 → (a < n) × (b < n) → P (Either a b)
  pub is_not : k ≡ 22 → a < n → P (Not a)
  pub bad : P Bad

pub shape-all : (P : Shape → Type 0) (n k : ℕ) (x y : ℤ) (a b c : ℕ) → Cases P n k x y a b c → P (shape_by n k x y a b c)
unfolding shape_by kept
shape-all P n k x y a b c h = grind (arith, common_steps)

-- ---- kinds that are no arithmetic, and no condition
module _ (f : ℕ → Arith) (g : ℕ → Cond) (n : ℕ) (x y : ℤ) (a b c k : ℕ) where
  pub no-arith : (k ≡ 0 → ⊥) → (k ≡ 2 → ⊥) → Leaf k → arith_by f g n (shape_by n k x y a b c) ≡ no_arith n
  unfolding arith_by shape_by kept
  no-arith z v h = grind (arith, common_steps)

  pub no-cond : (16 ≤ k → 22 < k) → cond_by f g n (shape_by n k x y a b c) ≡ no_cond n
  unfolding cond_by shape_by kept
  no-cond h = grind (arith, common_steps)
