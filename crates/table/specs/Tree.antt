-- The trees of arithmetic and conditions, each node with its number, and the trees of a table's nodes (document 01, 'Task table').
-- Assumes nothing.
use Rattle.std.specs.Prelude.{ℕ, zero, suc, List, ℤ}
use Rattle.interval.specs.declared.Operation.{Operation}
use Rattle.interval.specs.declared.Comparison.{Comparison}
use Rattle.table.specs.declared.Shape.{Shape}
use Rattle.table.specs.declared.Shape.TheVariants.{Constant, Input, Variable, Negation, Binary, Choice, Compare, Both, Either, Not, Bad}
use Rattle.table.specs.Decode.{shape_of}

mutual
  pub data Arith : Type 0 where
    constant : ℕ → ℤ → Arith
    input : ℕ → ℤ → ℤ → Arith
    variable : ℕ → ℕ → Arith
    negation : ℕ → Arith → Arith
    binary : ℕ → Operation → Arith → Arith → Arith
    choice : ℕ → Cond → Arith → Arith → Arith
    -- a node that is no arithmetic
    no_arith : ℕ → Arith

  pub data Cond : Type 0 where
    compare : ℕ → Comparison → Arith → Arith → Cond
    both : ℕ → Cond → Cond → Cond
    either : ℕ → Cond → Cond → Cond
    is_not : ℕ → Cond → Cond
    -- a node that is no condition
    no_cond : ℕ → Cond

-- one step: the tree at the node n of the shape given, its children's trees from `a` and `c`
unfoldable pub arith_by : (ℕ → Arith) → (ℕ → Cond) → ℕ → Shape → Arith
arith_by a c n (Constant z) = constant n z
arith_by a c n (Input l h) = input n l h
arith_by a c n (Variable v) = variable n v
arith_by a c n (Negation x) = negation n (a x)
arith_by a c n (Binary op x y) = binary n op (a x) (a y)
arith_by a c n (Choice x y z) = choice n (c x) (a y) (a z)
arith_by a c n (Compare k x y) = no_arith n
arith_by a c n (Both x y) = no_arith n
arith_by a c n (Either x y) = no_arith n
arith_by a c n (Not x) = no_arith n
arith_by a c n Bad = no_arith n

unfoldable pub cond_by : (ℕ → Arith) → (ℕ → Cond) → ℕ → Shape → Cond
cond_by a c n (Constant z) = no_cond n
cond_by a c n (Input l h) = no_cond n
cond_by a c n (Variable v) = no_cond n
cond_by a c n (Negation x) = no_cond n
cond_by a c n (Binary op x y) = no_cond n
cond_by a c n (Choice x y z) = no_cond n
cond_by a c n (Compare k x y) = compare n k (a x) (a y)
cond_by a c n (Both x y) = both n (c x) (c y)
cond_by a c n (Either x y) = either n (c x) (c y)
cond_by a c n (Not x) = is_not n (c x)
cond_by a c n Bad = no_cond n

-- with fuel, of which one more than the node's own number is enough; `arith_is` and `cond-is` of proofs/TreeLaws have no fuel
unfoldable mutual
  pub arith_f : ℕ → (ℕ → Shape) → ℕ → Arith
  arith_f zero s n = no_arith n
  arith_f (suc f) s n = arith_by (λ m. arith_f f s m) (λ m. cond_f f s m) n (s n)

  pub cond_f : ℕ → (ℕ → Shape) → ℕ → Cond
  cond_f zero s n = no_cond n
  cond_f (suc f) s n = cond_by (λ m. arith_f f s m) (λ m. cond_f f s m) n (s n)

-- the trees at the node n of the nodes ns
unfoldable pub arith_at : List ℤ → ℕ → Arith
arith_at ns n = arith_f (suc n) (shape_of ns) n

unfoldable pub cond_at : List ℤ → ℕ → Cond
cond_at ns n = cond_f (suc n) (shape_of ns) n
