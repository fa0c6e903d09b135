-- What a step reads of a table, in arrays of fixed length, and what stands at a point of a table that passes refusals 1 to 6.
-- Assumes nothing.
use Rattle.std.specs.Prelude.{ℕ, ◌<◌, ◌≡◌, List, ℤ}
use Rattle.table.specs.declared.Point.{Point}
use Rattle.table.specs.declared.Point.TheVariants.{End, Assign, Test, Lock, Unlock}
use Rattle.table.specs.Layout.{points_of, nodes_of, four_of}

-- the nodes and the points are those of the table t; past the last ones both read zeros
pub record Kept (t nodes points : List ℤ) : Type 0 where
  pub node : (n : ℕ) → four_of nodes n ≡ four_of (nodes_of t) n
  pub point : (p : ℕ) → four_of points p ≡ four_of (points_of t) p

-- what a point names fits: a variable, a mutex and a target their slots, a node the words of the nodes
abbrev pub Fits : Point → Type 0
Fits End = Unit {0}
Fits (Assign v e q) = (v < 16) × (e < 1024) × (q < 256)
Fits (Test c y n) = (c < 1024) × (y < 256) × (n < 256)
Fits (Lock m q) = (m < 8) × (q < 256)
Fits (Unlock m q) = (m < 8) × (q < 256)
