-- A row that is taken in changes no other place.
-- Assumes nothing.
use Prim.Native.Nat.{ℕ}
use mathlib.Core.Path.{◌≡◌, refl}
use mathlib.Core.Bool.{Bool, true, false}
use mathlib.Core.List.{List}
use lib.IntN.{ℤ}
use lib.Seq.{get_or-set_other}
use Rattle.analysis.specs.declared.Row.{Row}
use Rattle.proposer.specs.Widen.{covers_of, Places, place_in, take_if, take_by, take_in}
use Rattle.std.specs.Prelude.{None, Option, Some}

module _ (n : ℕ) (ts : List ℤ) (a : Places) (k : ℕ) (s : Row) (j : ℕ) where
  pub take-other : (j ≡ k → ⊥) → place_in (take_in n ts a k s) j ≡ place_in a j
  unfolding take_in take_by take_if
  take-other d = by (place_in a k)
    where
      if : (b : Bool) (r : Row) → place_in (take_if b n ts a k r s) j ≡ place_in a j
      if true r = refl
      if false r = get_or-set_other a.at k j _ None d

      by : (m : Option Row) → place_in (take_by m n ts a k s) j ≡ place_in a j
      by None = get_or-set_other a.at k j _ None d
      by (Some r) = if (covers_of n r s) r
