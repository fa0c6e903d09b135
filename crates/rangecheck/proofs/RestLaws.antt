-- How much of the input decides the text: the first n bytes of b are as good as all of them for each word that ends there.
-- Assumes nothing.
use Prim.Native.Nat.{ℕ, zero, suc, ◌+◌, ◌*◌, ◌<◌, ◌≤◌}
use mathlib.Core.Path.{◌≡◌, refl, sym, ap, ◌∙◌}
use mathlib.Core.Bool.{Bool, true, false}
use mathlib.Core.List.{List}
use native.Mathlib.Decide.{dec_le}
use native.Mathlib.Omega.{arith}
use borrow.Author.Tests.{le-leb}
use lib.IntN.{ℤ}
use lib.ListN.{length, get_or, take, drop}
use lib.Seq.{length-take-le, take_all, get_or-take, get_or-drop}
use Rattle.words.specs.Words.{number_of}
use Rattle.words.specs.Tabulate.{tabulate}
use Rattle.words.specs.Bytes.{word_in}
use Rattle.rangecheck.specs.Program.{length_at, table_of, proposal_of, in_limits, called_by, called_for, all_there, program_by, program_of}
use Rattle.rangecheck.specs.Laws.{Laws}
use Rattle.rangecheck.proofs.ProgramLaws.{there-limited}
use Rattle.words.proofs.FillLaws.{tabulate-same}

module _ (b : List ℕ) (n : ℕ) where
  byte-same : (m i : ℕ) → m + i < n → get_or (drop m (take n b)) i 0 ≡ get_or (drop m b) i 0
  byte-same m i h = get_or-drop m (take n b) i 0 ∙ get_or-take n b (m + i) 0 h ∙ sym (get_or-drop m b i 0)

  -- the words from byte m on
  word_same : (m k : ℕ) → m + 4 * k + 4 ≤ n → word_in (drop m (take n b)) k ≡ word_in (drop m b) k
  word_same m k h =
      rw (
        byte-same m (4 * k) (omega arith),
        byte-same m (4 * k + 1) (omega arith),
        byte-same m (4 * k + 2) (omega arith),
        byte-same m (4 * k + 3) (omega arith),
      )

  -- ---- the lengths are there
  module _ (head : 8 ≤ n) where
    length-same : (k : ℕ) → k < 2 → length_at (take n b) k ≡ length_at b k
    unfolding length_at
    length-same k h = ap number_of (word_same 0 k (omega arith))

    called_by-same : (s : Bool) → called_by s (take n b) ≡ called_by s b
    unfolding called_by
    called_by-same true = rw (length-same 0 (omega arith), length-same 1 (omega arith))
    called_by-same false = refl

    limits-same : n ≤ length b → in_limits (take n b) ≡ in_limits b
    unfolding in_limits
    limits-same l =
        let is = length-take-le n b l in
        rw (
          le-leb 8 (length (take n b)) (omega arith),
          le-leb 8 (length b) (omega arith),
          length-same 0 (omega arith),
          length-same 1 (omega arith),
        )

    called-within : n ≤ length b → called_for (take n b) ≡ called_for b
    unfolding called_for
    called-within l = rw (limits-same l) (called_by-same (in_limits b))

    called_same : called_for (take n b) ≡ called_for b
    called_same = by (dec_le n (length b))
      where
        by : Dec (n ≤ length b) → called_for (take n b) ≡ called_for b
        by (yes l) = called-within l
        by (no l) = ap called_for (take_all n b (omega arith))

module _ (b : List ℕ) where
  called_by-head : (s : Bool) → 8 ≤ called_by s b
  unfolding called_by
  called_by-head true = omega arith
  called_by-head false = omega arith

  called-head : 8 ≤ called_for b
  unfolding called_for
  called-head = called_by-head (in_limits b)

  -- ---- all that is called for is there
  module _ (l : called_for b ≤ length b) where
    there-same : all_there (take (called_for b) b) ≡ all_there b
    unfolding all_there
    there-same =
        let is = length-take-le (called_for b) b l in
        rw (
          limits-same b (called_for b) called-head l,
          called-within b (called_for b) called-head l,
          le-leb (called_for b) (length (take (called_for b) b)) (omega arith),
          le-leb (called_for b) (length b) l,
        )

    text_same : (s : Bool) → all_there b ≡ s → program_by s (take (called_for b) b) ≡ program_by s b
    unfolding program_by table_of proposal_of
    text_same true e =
        let is = there-limited b e in
        rw (
          length-same b (called_for b) called-head 0 (omega arith),
          length-same b (called_for b) called-head 1 (omega arith),
          tabulate-same (word_in (drop 8 (take (called_for b) b))) (word_in (drop 8 b)) (length_at b 0)
              (λ k h. word_same b (called_for b) 8 k (omega (arith, is.called))),
          tabulate-same (word_in (drop (8 + 4 * length_at b 0) (take (called_for b) b))) (word_in (drop (8 + 4 * length_at b 0) b)) (length_at b 1)
              (λ k h. word_same b (called_for b) (8 + 4 * length_at b 0) k (omega (arith, is.called))),
        )
    text_same false e = refl

    within : program_of (take (called_for b) b) ≡ program_of b
    unfolding program_of
    within = rw there-same (text_same (all_there b) refl)

  rest-ignored : program_of (take (called_for b) b) ≡ program_of b
  rest-ignored = by (dec_le (called_for b) (length b))
    where
      by : Dec (called_for b ≤ length b) → program_of (take (called_for b) b) ≡ program_of b
      by (yes l) = within l
      by (no l) = ap program_of (take_all (called_for b) b (omega arith))

pub laws : Laws
laws = record { head-tells = λ b. called_same b 8 (omega arith); rest-ignored = rest-ignored }
