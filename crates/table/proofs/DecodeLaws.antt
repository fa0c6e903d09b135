-- Laws of decoding: a shape whose children are below it or are not, the shape of a kind that there is not, and the number of a word that was read.
-- Assumes nothing.
use Prim.Native.Nat.{ℕ, ◌<◌}
use mathlib.Core.Path.{◌≡◌, ap, ◌∙◌}
use mathlib.Core.Bool.{Bool, true, false}
use native.Mathlib.Omega.{arith}
use lib.IntN.{ℤ}
use lib.Signed.{mag}
use mir.Syntax.{w32}
use mir.Val.{to_z, of_z}
use Rattle.std.proofs.lemmas.Grind.{common_steps}
use Rattle.words.specs.Words.{number_of}
use Rattle.words.proofs.Signed.{read_back}
use Rattle.table.specs.declared.Shape.{Shape}
use Rattle.table.specs.declared.Shape.TheVariants.{Bad}
use Rattle.table.specs.Decode.{is_arithmetic, is_condition, kept, shape_by}

-- a shape whose children are below it, and one with a child that is not
pub kept-yes : {b : Bool} {s : Shape} → b ≡ true → s ≡ kept b s
unfolding kept
kept-yes e = rw e

pub kept-no : (s : Shape) {b : Bool} → b ≡ false → Bad ≡ kept b s
unfolding kept
kept-no s e = rw e

-- ---- the shape of a kind that is none of those there are
abbrev pub NoKind : ℕ → Type 0
NoKind k = (is_arithmetic k ≡ false) × (is_condition k ≡ false)

pub unknown-shape : (n k : ℕ) (x y : ℤ) (a b c : ℕ) → NoKind k → Bad ≡ shape_by n k x y a b c
unfolding shape_by
unknown-shape n k x y a b c h = grind (arith, common_steps)

-- the number of a word that comes back from its bits
pub number-back : (z : ℤ) {m : ℕ} → mag z < 2147483648 → m ≡ number_of (to_z w32 (of_z w32 z)) → m ≡ number_of z
number-back z p e = e ∙ ap number_of (read_back p)
