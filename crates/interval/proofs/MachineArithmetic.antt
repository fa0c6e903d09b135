-- What the code hands on: numbers by their bits, and results of calls.
-- Assumes nothing.
use Prim.Native.Nat.{◌^◌, ◌<◌}
use mathlib.Core.Path.{◌≡◌, ◌∙◌}
use lib.IntN.{ℤ}
use lib.Signed.{mag}
use mir.Syntax.{w32, w64}
use mir.Val.{SFits, hbits, to_z, of_z}
use mir.Facts.{to_z-of_z}
use Rattle.interval.proofs.Machine.{ok64}

pub ok32 : (z : ℤ) → mag z < 2 ^ hbits w32 → SFits w32 z
ok32 z h = record { sfits = h }

-- a number as it is handed on, by its bits
abbrev pub word : ℤ → ℤ
word z = to_z w32 (of_z w32 z)

abbrev pub long : ℤ → ℤ
long z = to_z w64 (of_z w64 z)

-- what a call gave, handed on, is what it ensures
pub handed32 : {z x : ℤ} → z ≡ x → mag z < 2 ^ hbits w32 → word z ≡ x
handed32 {z} e h = to_z-of_z (ok32 z h) ∙ e

pub handed64 : {z x : ℤ} → z ≡ x → mag z < 2 ^ hbits w64 → long z ≡ x
handed64 {z} e h = to_z-of_z (ok64 z h) ∙ e
