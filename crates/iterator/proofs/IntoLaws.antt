-- An entry taken into a row: nothing changes where either isn't there, and entries never do.
-- Assumes nothing.
use Prim.Native.Nat.{ℕ}
use mathlib.Core.Path.{◌≡◌, refl}
use mathlib.Core.Bool.{Bool, true, false}
use mathlib.Core.List.{List}
use lib.IntN.{ℤ}
use Rattle.analysis.specs.declared.Row.{Row}
use Rattle.proposer.specs.Widen.{place_in}
use Rattle.proposer.specs.Passes.{State, take_both, entry_into}
use Rattle.std.specs.Prelude.{None, Option, Some}

module _ (b : Bool) (t ts : List ℤ) (s : State) (k q : ℕ) where
  pub into-entries : (entry_into b t ts s k q).entries ≡ s.entries
  unfolding entry_into
  into-entries = elim b as (λ b. (entry_into b t ts s k q).entries ≡ s.entries) [ true ↦ refl | false ↦ refl ]

  -- there is no entry, or no row
  pub into-no-entry : place_in s.entries q ≡ None → entry_into b t ts s k q ≡ s
  unfolding entry_into take_both
  into-no-entry e = by b
    where
      by : (b : Bool) → entry_into b t ts s k q ≡ s
      by true = rw e refl
      by false = refl

  pub into-no-row : place_in s.rows k ≡ None → entry_into b t ts s k q ≡ s
  unfolding entry_into take_both
  into-no-row e = by b (place_in s.entries q) refl
    where
      by : (b : Bool) (m : Option Row) → place_in s.entries q ≡ m → entry_into b t ts s k q ≡ s
      by true None f = rw f refl
      by true (Some x) f = rw (f, e) refl
      by false m f = refl
