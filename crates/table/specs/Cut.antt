-- The sizes and the parts of a table's words, as the struct `Table` has them.
-- Assumes nothing.
use Rattle.std.specs.Prelude.{◌≡◌, List, ℤ}
use Rattle.table.specs.declared.Sizes.{Sizes}
use Rattle.table.specs.Layout.{sizes_of, shares_of, starts_of, points_of, nodes_of}

pub record Cut (t : List ℤ) (s : Sizes) (us vs ps ns : List ℤ) : Type 0 where
  pub sizes : s ≡ sizes_of t
  pub shares : us ≡ shares_of t
  pub starts : vs ≡ starts_of t
  pub points : ps ≡ points_of t
  pub nodes : ns ≡ nodes_of t
