-- How much of the input decides the text, so that the program need not wait for more. The function `laws_hold` has these laws as its contract.
-- Assumes nothing.
use Rattle.std.specs.Prelude.{ℕ, ◌≡◌, List, take}
use Rattle.rangecheck.specs.Program.{called_for, program_of}

pub record Laws : Type 0 where
  -- the first eight bytes tell how many are called for
  pub head-tells : (b : List ℕ) → called_for (take 8 b) ≡ called_for b
  -- and the text of so many is that of all
  pub rest-ignored : (b : List ℕ) → program_of (take (called_for b) b) ≡ program_of b
