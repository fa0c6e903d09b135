-- The least and the greatest of four integers, and the test whether two are the same. (Of two, they are std's `int_min` and `int_max`.)
-- Assumes nothing.
use Rattle.std.specs.Prelude.{Bool, ◌&&◌, ℤ}
use Rattle.std.specs.Int.{int_min, int_max}
use Rattle.std.specs.Int.Signed.{le_z}

unfoldable pub min4_z : ℤ → ℤ → ℤ → ℤ → ℤ
min4_z a b c d = int_min (int_min a b) (int_min c d)

unfoldable pub max4_z : ℤ → ℤ → ℤ → ℤ → ℤ
max4_z a b c d = int_max (int_max a b) (int_max c d)

unfoldable pub eq_z : ℤ → ℤ → Bool
eq_z a b = le_z a b && le_z b a
