-- What the tests of the program tell of the input and of its text.
-- Assumes nothing.
use Prim.Native.Nat.{ℕ, zero, suc, ◌+◌, ◌*◌, ◌<◌, ◌≤◌}
use mathlib.Core.Path.{◌≡◌, refl, ap}
use mathlib.Core.Bool.{Bool, true, false}
use mathlib.Core.List.{List, ◌++◌}
use native.Mathlib.Omega.{arith}
use borrow.Author.Tests.{leb-true}
use lib.Dec.{leb}
use lib.IntN.{ℤ}
use lib.ListN.{length, take, drop}
use lib.Seq.{take_at}
use Rattle.words.specs.Words.{word_of, number_of, number_at}
use Rattle.words.specs.Tabulate.{tabulate}
use Rattle.words.specs.Bytes.{word_in, whole_of, decoded_of}
use Rattle.words.proofs.Bools.{and_left, and_right}
use Rattle.words.proofs.FillLaws.{length-tabulate}
use Rattle.rangecheck.specs.Print.{printed_of}
use Rattle.rangecheck.specs.Program.{length_at, table_of, proposal_of, in_limits, called_by, called_for, all_there, unread, program_by, program_of}

-- ---- the lengths, decoded to a room for two words
decoded-word : (f : ℕ → ℤ) (e : List ℤ) (k : ℕ) → k < 2 → word_of (tabulate f 2 ++ e) k ≡ f k
unfolding tabulate
decoded-word f e zero h = refl
decoded-word f e (suc zero) h = refl
decoded-word f e (suc (suc k)) h = absurd (omega arith)

pub decoded_length : (b : List ℕ) (room : List ℤ) (k : ℕ) → length room ≡ 2 → 8 ≤ length b → k < 2 → number_at (decoded_of b room) k ≡ length_at b k
unfolding length_at
decoded_length b room k l h s =
    let whole : whole_of b room ≡ 2 = omega arith in
    rw whole (ap number_of (decoded-word (word_in b) (drop 2 room) k s))

-- ---- the words of a part, read to the front of a room
pub part_words : (f : ℕ → ℤ) (n : ℕ) (e : List ℤ) → take n (tabulate f n ++ e) ≡ tabulate f n
part_words f n e = take_at (tabulate f n) e n (length-tabulate f n)

pub ruleset parts = (part_words, length-tabulate)

module _ (b : List ℕ) where
  pub record Limited : Type 0 where
    pub head : 8 ≤ length b
    pub table : length_at b 0 ≤ 5149
    pub proposal : length_at b 1 ≤ 11268
    pub called : called_for b ≡ 8 + 4 * length_at b 0 + 4 * length_at b 1

  pub limited : in_limits b ≡ true → Limited
  unfolding in_limits called_for called_by
  limited e =
      let lengths = and_right (leb 8 (length b)) _ e in
      record {
        head = leb-true 8 (length b) (and_left _ _ e);
        table = leb-true (length_at b 0) 5149 (and_left _ _ lengths);
        proposal = leb-true (length_at b 1) 11268 (and_right (leb (length_at b 0) 5149) _ lengths);
        called = ap (λ (s : Bool). called_by s b) e;
      }

  pub limits_head : in_limits b ≡ true → 8 ≤ length b
  limits_head e = (limited e).head

  pub limits_table : in_limits b ≡ true → length_at b 0 ≤ 5149
  limits_table e = (limited e).table

  pub limits_proposal : in_limits b ≡ true → length_at b 1 ≤ 11268
  limits_proposal e = (limited e).proposal

  -- ---- no bytes are missing
  pub there-limited : all_there b ≡ true → Limited
  unfolding all_there
  there-limited e = limited (and_left _ _ e)

  pub there_head : all_there b ≡ true → 8 ≤ length b
  there_head e = (there-limited e).head

  pub there_table : all_there b ≡ true → length_at b 0 ≤ 5149
  there_table e = (there-limited e).table

  pub there_proposal : all_there b ≡ true → length_at b 1 ≤ 11268
  there_proposal e = (there-limited e).proposal

  pub there_called : all_there b ≡ true → 8 + 4 * length_at b 0 + 4 * length_at b 1 ≤ length b
  unfolding all_there
  there_called e =
      let all = leb-true (called_for b) (length b) (and_right (in_limits b) _ e) in
      omega (arith, (there-limited e).called)

  -- ---- the text
  -- that of the parts as the code reads them, t and p words
  pub text_there : {t p : ℕ} {x y : List ℤ} → all_there b ≡ true → t ≡ length_at b 0 → p ≡ length_at b 1
      → x ≡ tabulate (word_in (drop 8 b)) t → y ≡ tabulate (word_in (drop (8 + 4 * t) b)) p → printed_of x y ≡ program_of b
  unfolding program_of program_by table_of proposal_of
  text_there there t-is p-is x-is y-is = rw (there, x-is, y-is, t-is, p-is)

  pub text_else : all_there b ≡ false → program_of b ≡ unread
  unfolding program_of program_by
  text_else e = rw e

-- what is known where the lengths lie in their limits, and where no bytes are missing
pub ruleset limits = (limits_head, limits_table, limits_proposal)

pub ruleset there = (there_head, there_table, there_proposal, there_called, text_else)
