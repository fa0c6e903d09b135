-- The words of a state: which are the owners, how many words there are, and that they fill the front that they are copied to.
-- Assumes nothing.
use Prim.Native.Nat.{ℕ, ◌-◌, ◌<◌, ◌≤◌}
use mathlib.Core.Path.{◌≡◌}
use mathlib.Core.List.{List}
use borrow.Author.Tests.{lt-ltb, le-ltb}
use native.Mathlib.Omega.{arith}
use lib.IntN.{ℤ}
use lib.ListN.{length, take, length-take}
use Rattle.words.specs.Words.{word_of}
use Rattle.words.proofs.FillLaws.{length-tabulate}
use Rattle.run.specs.declared.State.{State}
use Rattle.rangecheck_c.specs.Slots.{slot_of, slots_of}

pub slot-owner : (s : State) (i : ℕ) → 24 ≤ i → i < 32 → word_of s.owners (i - 24) ≡ slot_of s i
unfolding slot_of
slot-owner s i l h = rw (le-ltb i 8 (omega arith), le-ltb i 24 l, lt-ltb i 32 h)

pub slots_count : (s : State) → length (slots_of s) ≡ 48
unfolding slots_of
slots_count s = length-tabulate (slot_of s) 48

pub slots_fill : (out ws : List ℤ) (s : State) → ws ≡ slots_of s → 48 ≤ length out → length (take 48 out) ≡ length ws
slots_fill out ws s e h = rw (e, slots_count s) (omega (arith, length-take 48 out))
