-- The held set that marks bring to a point: it is one of the table's sets, and 0 past the points.
-- Assumes nothing.
use Prim.Native.Nat.{ℕ, ◌+◌, ◌*◌, ◌<◌, ◌≤◌}
use mathlib.Core.Path.{◌≡◌, refl, ap}
use mathlib.Core.Bool.{Bool, not}
use mathlib.Core.List.{List}
use native.Mathlib.Nat.{mul-le-mul_right}
use native.Mathlib.Omega.{arith}
use lib.IntN.{ℤ}
use lib.ListN.{length, get_or-eq_default}
use lib.Pow.{pow_pos}
use Rattle.words.specs.First.{first_bad}
use Rattle.words.proofs.FirstLaws.{first_bad-smallest, none-first_bad}
use Rattle.table.specs.Layout.{sizes_of}
use Rattle.proposer.specs.Walk.{sets_of, mark_count, brought, or_zero, held_in}
use Rattle.std.specs.Prelude.{Option, None, Some}

module _ (t : List ℤ) (marks : List Bool) (p : ℕ) where
  abbrev missing : ℕ → Bool
  missing s = not (brought t marks p s)

  pub held_below : held_in t marks p < sets_of t
  unfolding held_in or_zero
  held_below = by (first_bad missing (sets_of t)) refl
    where
      by : (f : Option ℕ) → first_bad missing (sets_of t) ≡ f → or_zero f < sets_of t
      by (Some s) e = (first_bad-smallest missing (sets_of t) s e).below
      by None e = pow_pos (sizes_of t).mutexes

  pub held-past : length marks ≡ mark_count t → (sizes_of t).points ≤ p → held_in t marks p ≡ 0
  unfolding held_in or_zero
  held-past e l =
      let past = mul-le-mul_right {m = (sizes_of t).points} {n = p} (sets_of t) l in
      rw (none-first_bad missing (sets_of t) (λ s _. ap not (get_or-eq_default marks _ {n = p * sets_of t + s} (omega arith))))
