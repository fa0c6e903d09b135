-- A law of what fields must be: a node whose kind is past the arithmetic ones and before the conditions has no fields that will do.
-- Assumes nothing.
use Prim.Native.Nat.{ℕ, ◌<◌}
use mathlib.Core.Path.{◌≡◌}
use native.Mathlib.Omega.{arith}
use lib.IntN.{ℤ}
use Rattle.std.proofs.lemmas.Grind.{common_steps}
use Rattle.table.specs.Formed.{Unknown, fields_of, node_fields_of}

pub between-fields : (a : ℤ) {k : ℕ} → 9 < k → k < 16 → node_fields_of k a ≡ fields_of Unknown Unknown Unknown
unfolding node_fields_of
between-fields a l h = grind (arith, common_steps)
