-- A word below 0 from the distance m to -1: 0 - m, then less 1, both within a signed word. Assumes nothing.
use Prim.Native.Nat.{ℕ, zero, suc, ◌-◌, ◌<◌, ◌≤◌}
use mathlib.Core.Path.{◌≡◌, refl, ◌∙◌}
use native.Mathlib.Nat.{add-zero}
use native.Mathlib.Omega.{arith}
use lib.IntN.{pos, negsuc, ◌-ℤ◌, +ℤ_idl}
use mir.Syntax.{w32}
use mir.Val.{SFits, to_z, of_z}
use mir.Facts.{to_z-of_z}
use mir.ValLaws.{to_z_pos}
use borrow.Author.Tests.{lt-ltb, le-ltb}
use Rattle.words.specs.Bytes.{signed_of, signed_by}

-- below 2^31 a number stands for itself
pub signed_low : (n : ℕ) → n < 2147483648 → pos n ≡ signed_of n
unfolding signed_of signed_by
signed_low n h = rw (lt-ltb _ _ h)

-- from 2^31 on, for the word at its distance from -1
pub signed_high : (n : ℕ) → 2147483648 ≤ n → negsuc (4294967295 - n) ≡ signed_of n
unfolding signed_of signed_by
signed_high n h = rw (le-ltb _ _ h)

minus-fits' : (m : ℕ) → m < 2147483648 → SFits w32 (pos 0 -ℤ pos m)
minus-fits' zero h = record { sfits = omega arith }
minus-fits' (suc m) h = rw +ℤ_idl (record { sfits = omega arith })

less_one : (m : ℕ) → (pos 0 -ℤ pos m) -ℤ pos 1 ≡ negsuc m
less_one zero = refl
less_one (suc m) = rw (+ℤ_idl, add-zero)

module _ (m : ℕ) (h : m < 2147483648) where
  pub minus-fits : SFits w32 (pos 0 -ℤ to_z w32 m)
  minus-fits = rw (to_z_pos w32 m h) (minus-fits' m h)

  is-less-one : to_z w32 (of_z w32 (pos 0 -ℤ to_z w32 m)) -ℤ pos 1 ≡ negsuc m
  is-less-one = rw (to_z-of_z minus-fits, to_z_pos w32 m h) (less_one m)

  pub less-one-fits : SFits w32 (to_z w32 (of_z w32 (pos 0 -ℤ to_z w32 m)) -ℤ pos 1)
  less-one-fits = rw is-less-one (record { sfits = h })

  pub less-one-is : to_z w32 (of_z w32 (to_z w32 (of_z w32 (pos 0 -ℤ to_z w32 m)) -ℤ pos 1)) ≡ negsuc m
  less-one-is = to_z-of_z less-one-fits ∙ is-less-one
