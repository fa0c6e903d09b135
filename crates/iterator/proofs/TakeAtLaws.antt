-- An interval of one variable taken in at a place: only the two ends of that variable are looked at, and only they can move.
-- Assumes nothing.
use Rattle.std.proofs.Common.{◌≡◌, ℕ, ◌<◌, Bool, true, false, ◌&&◌, List, ℤ, pos, length, get_or, set, refl, sym, ◌∙◌, arith}
use Rattle.std.proofs.lemmas.List.{get_or-set_same, get_or-set_other}
use Rattle.std.specs.Prelude.{Option, None, Some}
use Rattle.std.specs.Option.{option_map}
use Rattle.std.specs.Int.Signed.{le_z}
use native.Mathlib.Decide.{ℕ_discrete}
use lib.Signed.{≤ℤ_refl}
use Rattle.words.specs.Words.{word_of}
use Rattle.words.proofs.FirstLaws.{each-all_below, fails-at}
use Rattle.words.proofs.FillLaws.{length-tabulate, get_d_tabulate}
use Rattle.interval.specs.declared.Interval.{Interval}
use Rattle.interval.proofs.IntegerLaws.{le-true}
use Rattle.analysis.specs.declared.Row.{Row}
use Rattle.analysis.specs.Rows.{row_of}
use Rattle.proposer.specs.Widen.{low_to, high_to, covers_of, trimmed_of, widened_of, place_in, take_in}
use Rattle.proposer.specs.Passes.{with_at, take_both}
use Rattle.iterator.specs.declared.places.Rows.{Rows}
use Rattle.iterator.specs.Arrays.{one_of, rows_by}
use Rattle.iterator.proofs.TabulateLaws.{tabulate-one}
use Rattle.iterator.proofs.PlaceLaws.{place_is, takes-held, takes-moved}

-- an end that needn't move stays
low-stays : (ts : List ℤ) (z : ℤ) → low_to ts z z ≡ z
unfolding low_to
low-stays ts z = rw (le-true (≤ℤ_refl z)) refl

high-stays : (ts : List ℤ) (z : ℤ) → high_to ts z z ≡ z
unfolding high_to
high-stays ts z = rw (le-true (≤ℤ_refl z)) refl

-- ---- a row of n intervals, and itself with another interval at v
module _ (n v : ℕ) (r : Row) (x : Interval) (below : v < n) (lows : length r.lows ≡ n) (highs : length r.highs ≡ n) where
  covers_one : covers_of n r (with_at r v (one_of x)) ≡ le_z (word_of r.lows v) x.low && le_z x.high (word_of r.highs v)
  unfolding covers_of
  covers_one = by (le_z (word_of r.lows v) x.low && le_z x.high (word_of r.highs v)) refl
    where
      test : ℕ → Bool
      test i = le_z (word_of r.lows i) (word_of (set r.lows v x.low) i) && le_z (word_of (set r.highs v x.high) i) (word_of r.highs i)

      test_at : test v ≡ le_z (word_of r.lows v) x.low && le_z x.high (word_of r.highs v)
      test_at = rw (get_or-set_same r.lows v x.low (pos 0) (omega arith), get_or-set_same r.highs v x.high (pos 0) (omega arith)) refl

      test-other : (i : ℕ) → (i ≡ v → ⊥) → test i ≡ true
      test-other i d = rw (
        get_or-set_other r.lows v i x.low (pos 0) d,
        get_or-set_other r.highs v i x.high (pos 0) d,
        le-true (≤ℤ_refl (word_of r.lows i)),
        le-true (≤ℤ_refl (word_of r.highs i)),
      ) refl

      by : (b : Bool) → le_z (word_of r.lows v) x.low && le_z x.high (word_of r.highs v) ≡ b → covers_of n r (with_at r v (one_of x)) ≡ b
      by true e = each-all_below test n (λ i l. elim (ℕ_discrete i v) [
        | yes q ↦ rw q (test_at ∙ e)
        | no d ↦ test-other i d
      ])
      by false e = fails-at test n v below (test_at ∙ e)

  module _ (ts : List ℤ) where
    abbrev moved_row : Row
    moved_row = row_of (set r.lows v (low_to ts (word_of r.lows v) x.low)) (set r.highs v (high_to ts (word_of r.highs v) x.high))

    widened_one : widened_of n ts r (with_at r v (one_of x)) ≡ moved_row
    unfolding widened_of
    widened_one =
        let low : ℕ → ℤ = λ i. low_to ts (word_of r.lows i) (word_of (set r.lows v x.low) i) in
        let high : ℕ → ℤ = λ i. high_to ts (word_of r.highs i) (word_of (set r.highs v x.high) i) in
        rw (
          tabulate-one r.lows n (pos 0) low v lows below (λ i b d. rw (get_or-set_other r.lows v i x.low (pos 0) d) (low-stays ts _)),
          tabulate-one r.highs n (pos 0) high v highs below (λ i b d. rw (get_or-set_other r.highs v i x.high (pos 0) d) (high-stays ts _)),
          get_or-set_same r.lows v x.low (pos 0) (omega arith),
          get_or-set_same r.highs v x.high (pos 0) (omega arith),
        ) refl

-- ---- at the place k of rows
module _ (n c : ℕ) (rows : Rows) (ts : List ℤ) (k v : ℕ) (x : Interval) (place : k < c) where
  abbrev Taken : Rows → Type 0
  Taken after = rows_by n c after ≡ take_both (Some (one_of x)) (place_in (rows_by n c rows) k) n ts (rows_by n c rows) k v

  both : (m : Option Row) → get_or rows.at k None ≡ m
      → take_both (Some (one_of x)) (place_in (rows_by n c rows) k) n ts (rows_by n c rows) k v
      ≡ take_both (Some (one_of x)) (option_map (trimmed_of n) m) n ts (rows_by n c rows) k v
  both m e = rw (place_is (trimmed_of n) c rows.at rows.moved k place, e) refl

  pub takes_none : get_or rows.at k None ≡ None → Taken rows
  unfolding take_both
  takes_none e = sym (both None e)

  module _ {row : Row} (e : get_or rows.at k None ≡ Some row) (below : v < n) where
    -- the row is looked at in its own slots
    lows-long : length (trimmed_of n row).lows ≡ n
    unfolding trimmed_of
    lows-long = length-tabulate (word_of row.lows) n

    highs-long : length (trimmed_of n row).highs ≡ n
    unfolding trimmed_of
    highs-long = length-tabulate (word_of row.highs) n

    low-at : word_of (trimmed_of n row).lows v ≡ word_of row.lows v
    unfolding trimmed_of
    low-at = get_d_tabulate (word_of row.lows) n v (pos 0) below

    high_at : word_of (trimmed_of n row).highs v ≡ word_of row.highs v
    unfolding trimmed_of
    high_at = get_d_tabulate (word_of row.highs) n v (pos 0) below

    covers-is : covers_of n (trimmed_of n row) (with_at (trimmed_of n row) v (one_of x)) ≡ le_z (word_of row.lows v) x.low && le_z x.high (word_of row.highs v)
    covers-is = covers_one n v (trimmed_of n row) x below lows-long highs-long ∙ rw (low-at, high_at) refl

    taken : (after : Rows) → rows_by n c after ≡ take_in n ts (rows_by n c rows) k (with_at (trimmed_of n row) v (one_of x)) → Taken after
    unfolding take_both
    taken after f = f ∙ sym (both (Some row) e)

    pub takes-within : le_z (word_of row.lows v) x.low && le_z x.high (word_of row.highs v) ≡ true → Taken rows
    takes-within held = taken rows (takes-held _ _ _ _ _ place n ts _ e (covers-is ∙ held))

    pub takes_past : (next : Row) → le_z (word_of row.lows v) x.low && le_z x.high (word_of row.highs v) ≡ false
        → trimmed_of n next ≡ row_of (set (trimmed_of n row).lows v (low_to ts (word_of row.lows v) x.low)) (set (trimmed_of n row).highs v (high_to ts (word_of row.highs v) x.high))
        → Taken (record { at = set rows.at k (Some next); moved = true })
    takes_past next held put =
        taken _ (takes-moved (trimmed_of n) c rows.at rows.moved k place n ts _ e (covers-is ∙ held)
        (put ∙ rw (← low-at, ← high_at) (sym (widened_one n v (trimmed_of n row) x below lows-long highs-long ts))))
