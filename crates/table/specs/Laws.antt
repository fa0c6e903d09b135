-- The laws of this crate. The function `laws_hold` has them as its contract.
-- Assumes nothing.
use Rattle.std.specs.Prelude.{ℕ, ◌≡◌, List, ℤ}
use Rattle.table.specs.Decode.{shape_of, Below}
use Rattle.table.specs.Tree.{arith_by, cond_by, arith_at, cond_at}
use Rattle.table.specs.Validate.{validate_of}
use Rattle.table.specs.Passes.{Passes}
use Rattle.words.specs.Stages.{passed}

pub record Laws : Type 0 where
  -- the tree of a node is one step from its shape and its children's trees, in any words
  pub arith_is : (ns : List ℤ) (n : ℕ) → arith_at ns n ≡ arith_by (arith_at ns) (cond_at ns) n (shape_of ns n)
  pub cond-is : (ns : List ℤ) (n : ℕ) → cond_at ns n ≡ cond_by (arith_at ns) (cond_at ns) n (shape_of ns n)
  -- the children of a shape are below their parent, in any words
  pub children-below : (ns : List ℤ) (n : ℕ) → Below n (shape_of ns n)
  pub passes : (t : List ℤ) → validate_of t ≡ passed → Passes t
