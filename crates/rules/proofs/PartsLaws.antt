-- What refusals 7 and 9 leave of a proposal: its parts are whole, its heads are in range, its ends in order, so that an entry can be read where it lies.
-- Assumes nothing.
use Prim.Native.Nat.{ℕ, ◌+◌, ◌*◌, ◌<◌, ◌≤◌}
use mathlib.Core.Path.{◌≡◌, refl, sym, subst, ◌∙◌}
use mathlib.Core.Bool.{true}
use mathlib.Core.List.{List}
use native.Mathlib.Nat.{mul-le-mul_right, suc-mul}
use native.Mathlib.Omega.{arith}
use borrow.Author.Tests.{ltb-true}
use lib.IntN.{ℤ}
use lib.ListN.{length}
use lib.Signed.{le_z}
use Rattle.words.specs.Words.{word_of}
use Rattle.words.proofs.PartLaws.{part-word, part_length}
use Rattle.table.specs.Layout.{sizes_of}
use Rattle.analysis.specs.declared.Ends.{Ends}
use Rattle.analysis.specs.declared.Row.{Row}
use Rattle.analysis.specs.Rows.{seen}
use Rattle.rules.specs.Proposal.{rows_of, entries_of, intervals_of, heads_from, lows_from, proposal_length, heads_of, head_of, lows_of, highs_of, row_at, entries_at}
use Rattle.rules.specs.Rules.{head_in_range}
use Rattle.rules.specs.Ready.{Bounded, Ordered, Whole, Ready}
use Rattle.rules.proofs.ProposalLaws.{intervals-bound}
use Rattle.rules.proofs.RangeLaws.{head-word, end_is}

module _ {t w : List ℤ} (b : Bounded t w) where
  -- ---- how long the low and the high ends are, and those of row k
  pub lows-length : length (lows_of t w) ≡ intervals_of t w
  unfolding lows_of proposal_length
  lows-length = part_length w (lows_from t w) (intervals_of t w) (rw b.whole (omega arith))

  pub highs-length : length (highs_of t w) ≡ intervals_of t w
  unfolding highs_of proposal_length
  highs-length = part_length w (lows_from t w + intervals_of t w) (intervals_of t w) (rw b.whole (omega arith))

  -- and of the words before them
  pub early-there : {i : ℕ} → i < lows_from t w → i < length w
  unfolding proposal_length
  early-there l = omega (arith, b.whole)

  pub held-there : {i : ℕ} → i < heads_from t → i < length w
  unfolding lows_from
  held-there l = early-there (omega arith)

  -- row k ends before the entries
  pub row_room : (k : ℕ) → k < rows_of t → k * (sizes_of t).variables + (sizes_of t).variables ≤ intervals_of t w
  unfolding intervals_of
  row_room k l = let below = mul-le-mul_right (sizes_of t).variables l in omega (arith, suc-mul k (sizes_of t).variables)

  pub row-lows-length : (k : ℕ) → k < rows_of t → length (row_at t w k).lows ≡ (sizes_of t).variables
  unfolding row_at
  row-lows-length k l = part_length (lows_of t w) (k * (sizes_of t).variables) (sizes_of t).variables (rw lows-length (row_room k l))

  pub row-highs-length : (k : ℕ) → k < rows_of t → length (row_at t w k).highs ≡ (sizes_of t).variables
  unfolding row_at
  row-highs-length k l = part_length (highs_of t w) (k * (sizes_of t).variables) (sizes_of t).variables (rw highs-length (row_room k l))

  -- ---- how long the entries' parts are
  pub heads-length : length (heads_of t w) ≡ 3 * entries_of w
  unfolding heads_of proposal_length lows_from
  heads-length = part_length w (heads_from t) (3 * entries_of w) (rw b.whole (omega arith))

  pub entry-lows-length : length (entries_at t w).lows ≡ entries_of w
  unfolding entries_at intervals_of
  entry-lows-length = part_length (lows_of t w) (rows_of t * (sizes_of t).variables) (entries_of w) (rw lows-length (omega arith))

  pub entry-highs-length : length (entries_at t w).highs ≡ entries_of w
  unfolding entries_at intervals_of
  entry-highs-length = part_length (highs_of t w) (rows_of t * (sizes_of t).variables) (entries_of w) (rw highs-length (omega arith))

module _ {t w : List ℤ} (r : Ready t w) where
  -- the ends of v in row k, straight from all low and all high ends: `at` is the number of the interval
  module _ (k v : ℕ) (l : v < (sizes_of t).variables) where
    module _ {at : ℕ} (e : at ≡ k * (sizes_of t).variables + v) (h : k < rows_of t) where
      inside : at < intervals_of t w
      inside = omega (arith, row_room r.bounded k h)

      pub at_bound : at < 4736
      at_bound = omega (arith, inside, intervals-bound r.bounded)

      pub low-there : {low : List ℤ} → low ≡ lows_of t w → at < length low
      low-there f = rw (f, lows-length r.bounded) inside

      pub high-there : {high : List ℤ} → high ≡ highs_of t w → at < length high
      high-there f = rw (f, highs-length r.bounded) inside

    pub row_low : word_of (row_at t w k).lows v ≡ word_of (lows_of t w) (k * (sizes_of t).variables + v)
    unfolding row_at
    row_low = part-word (lows_of t w) (k * (sizes_of t).variables) (sizes_of t).variables v l

    pub row-high : word_of (row_at t w k).highs v ≡ word_of (highs_of t w) (k * (sizes_of t).variables + v)
    unfolding row_at
    row-high = part-word (highs_of t w) (k * (sizes_of t).variables) (sizes_of t).variables v l

  -- refusal 9 at the ends
  end-ordered : (i : ℕ) → i < intervals_of t w → le_z (word_of (lows_of t w) i) (word_of (highs_of t w) i) ≡ true
  end-ordered i l = sym (end_is t w i) ∙ r.range (lows_from t w + i) (omega arith)

  -- so row k can be read, its ends in order
  row-in-order : (k : ℕ) → k < rows_of t → Ordered (row_at t w k).lows (row_at t w k).highs (sizes_of t).variables
  row-in-order k l = record {
    low = omega (arith, row-lows-length r.bounded k l);
    high = omega (arith, row-highs-length r.bounded k l);
    ends = λ v below. rw (row_low k v below, row-high k v below) (end-ordered _ (omega (arith, row_room r.bounded k l)));
  }

  -- as the code cuts it
  pub row-whole : (e : Ends) (k : ℕ) → k < rows_of t → seen e ≡ row_at t w k → Whole t e.lows.now e.highs.now
  row-whole e k l q =
      subst (λ (x : Row). Whole t x.lows x.highs) (sym q)
      (record { variables = r.bounded.variables; low = row-lows-length r.bounded k l; high = row-highs-length r.bounded k l; ordered = row-in-order k l })

  -- ---- refusal 9 at the variable of an entry's head, and at its ends
  pub head-variable : (i : ℕ) → i < entries_of w → head_of t w i 2 < (sizes_of t).variables
  unfolding head_of heads_of lows_from head_in_range
  head-variable i l =
      rw (part-word w (heads_from t) (3 * entries_of w) (3 * i + 2) (omega arith))
      (ltb-true _ _ (sym (head-word t w i 2 (omega arith)) ∙ r.range (heads_from t + (3 * i + 2)) (omega arith)))

  pub entry-ordered : (i : ℕ) → i < entries_of w → le_z (word_of (entries_at t w).lows i) (word_of (entries_at t w).highs i) ≡ true
  unfolding entries_at intervals_of
  entry-ordered i l =
      let rows = rows_of t * (sizes_of t).variables in
      rw (part-word (lows_of t w) rows (entries_of w) i l, part-word (highs_of t w) rows (entries_of w) i l) (end-ordered (rows + i) (omega arith))
