-- Rows of a proposal and the values that lie within them. `Inside vs r` speaks of every index in ℕ; a row of the proposal reads 0 past the table's
-- variables, and so do the values of a state, so that only the variables of the table have to be looked at.
--     row_inside          from the variables to every index
--     past-inside         and back: past the variables the values are 0
--     own-inside          the row in sixteen slots
--     write-inside        a write within the row
--     assigned-keeps      a write of what the row's new interval holds
--     meet_rows-keeps      both rows
--     within-inside       a row that lies within another (rules 13 and 16)
--     start-inside        the starting values (rule 11)
-- Assumes nothing.
use Prim.Native.Nat.{ℕ, ◌+◌, ◌*◌, ◌<◌, ◌≤◌}
use mathlib.Core.Path.{◌≡◌, sym, ap, subst, ◌∙◌}
use mathlib.Core.Bool.{true, not}
use mathlib.Core.List.{List}
use native.Mathlib.Nat.{mul-le-mul_right, suc-mul}
use native.Mathlib.Decide.{dec_lt}
use native.Mathlib.Omega.{arith}
use lib.IntN.{ℤ, pos}
use lib.ListN.{length, set, get_or-eq_default}
use lib.Seq.{get_or-set_same, get_or-set_other}
use lib.Signed.{◌≤ℤ◌, ≤ℤ_refl}
use Rattle.interval.specs.Interval.{Within, Holds, span}
use Rattle.interval.specs.Lattice.{is_none_of, within_of, meet_of}
use Rattle.interval.specs.declared.Interval.{Interval}
use Rattle.interval.proofs.IntegerLaws.{≤-antisym, min-above, max-below, min-is, max-is}
use Rattle.interval.proofs.IntervalLaws.{first, from_to-holds, from_to-only}
use Rattle.interval.proofs.LatticeLaws.{within-holds, holds-some, meet-contains}
use Rattle.words.specs.Words.{word_of}
use Rattle.words.specs.First.{all_below}
use Rattle.words.proofs.FirstLaws.{all_below-each, each-all_below}
use Rattle.words.proofs.ListLaws.{at_each}
use Rattle.words.proofs.PartLaws.{part_length}
use Rattle.table.specs.Layout.{sizes_of, starts_of}
use Rattle.table.proofs.LayoutLaws.{part-within}
use Rattle.analysis.specs.declared.Row.{Row}
use Rattle.analysis.specs.Rows.{range_of, slots_of, own_of, row_if, Inside, Kept}
use Rattle.analysis.proofs.RowLaws.{set_all, each-is, slots-within, slots-past}
use Rattle.rules.specs.Proposal.{rows_of, intervals_of, lows_from, proposal_length, lows_of, highs_of, row_at}
use Rattle.rules.specs.Outcomes.{row_within_of, meet_rows_of, assigned}
use Rattle.rules.specs.Rules.{holds_start}
use Rattle.run.specs.State.{values_of}
use Rattle.std.specs.Int.{int_min, int_max}
use Rattle.std.specs.Prelude.{None, Option, Some}

-- the first sixteen words of a list that has no more
slots-word : (ws : List ℤ) (v : ℕ) → length ws ≤ 16 → word_of (slots_of ws) v ≡ word_of ws v
slots-word ws v h = elim (dec_lt v 16) [
  | yes l ↦ slots-within ws v l
  | no l ↦ slots-past ws v (omega arith) ∙ sym (get_or-eq_default ws (pos 0) {n = v} (omega arith))
]

-- the starting values, and their slots
starts-few : (t : List ℤ) {most : ℕ} → (sizes_of t).variables ≤ most → length (starts_of t) ≤ most
unfolding starts_of
starts-few t h = part-within t (5 + (sizes_of t).tasks) h

start_word : (t : List ℤ) (v : ℕ) → (sizes_of t).variables ≤ 16 → word_of (values_of t) v ≡ word_of (starts_of t) v
unfolding values_of slots_of
start_word t v few = slots-word (starts_of t) v (starts-few t few)

-- past the table's variables the values are 0
abbrev pub Past : List ℤ → List ℤ → Type 0
Past t vs = (v : ℕ) → (sizes_of t).variables ≤ v → word_of vs v ≡ pos 0

-- ---- any rows
pub own-inside : {vs : List ℤ} (r : Row) → length r.lows ≤ 16 → length r.highs ≤ 16 → Inside vs r → Inside vs (own_of r)
own-inside r l h i = record { at = λ v. rw (slots-word r.lows v l, slots-word r.highs v h) (i.at v) }

pub write-inside : {vs : List ℤ} (r : Row) (v : ℕ) (z : ℤ) → Within (word_of r.lows v) (word_of r.highs v) z → Inside vs r → Inside (set vs v z) r
write-inside {vs} r v z h i = record { at = set_all (λ u y. Within (word_of r.lows u) (word_of r.highs u) y) vs v z i.at h }

pub assigned-keeps : {vs : List ℤ} (x : Option Interval) (v : ℕ) (r : Row) (z : ℤ) → v < length vs → v < length r.lows → v < length r.highs
    → Holds x z → Inside vs r → Kept (set vs v z) (assigned x v r)
unfolding assigned
assigned-keeps None v r z n l h k i = absurd k
assigned-keeps {vs} (Some e) v r z n l h k i = record {
  at = at_each (λ u y. Within (word_of (set r.lows v e.low) u) (word_of (set r.highs v e.high) u) y) vs v z (pos 0) n
      (rw (get_or-set_same r.lows v e.low (pos 0) l, get_or-set_same r.highs v e.high (pos 0) h) k)
      (λ u d. rw (get_or-set_other r.lows v u e.low (pos 0) d, get_or-set_other r.highs v u e.high (pos 0) d) (i.at u));
}

pub meet_rows-keeps : {vs : List ℤ} (n : ℕ) (r s : Row) → Inside vs r → Inside vs s → Kept vs (meet_rows_of n r s)
unfolding meet_rows_of row_if
meet_rows-keeps {vs} n r s i j =
    rw some_left (record {
      at = λ v. record {
        low = rw (each-is int_max (max-is (≤ℤ_refl (pos 0))) r.lows s.lows v) (max-below (i.at v).low (j.at v).low);
        high = rw (each-is int_min (min-is (≤ℤ_refl (pos 0))) r.highs s.highs v) (min-above (i.at v).high (j.at v).high);
      };
    })
  where
    some_left : all_below (λ v. not (is_none_of (meet_of (range_of r v) (range_of s v)))) n ≡ true
    some_left = each-all_below (λ v. not (is_none_of (meet_of (range_of r v) (range_of s v)))) n
        (λ v l. ap not (holds-some _ (word_of vs v) (meet-contains _ _ (word_of vs v) (from_to-holds (i.at v)) (from_to-holds (j.at v)))))

-- ---- rows of the proposal
-- one number lies within 0 and 0
only_zero : {lo hi z : ℤ} → lo ≡ pos 0 → hi ≡ pos 0 → Within lo hi z → z ≡ pos 0
only_zero {lo} {hi} {z} l h i = ≤-antisym (subst (λ (y : ℤ). z ≤ℤ y) h i.high) (subst (λ (y : ℤ). y ≤ℤ z) l i.low)

module _ (t w : List ℤ) (k : ℕ) where
  -- no row is longer than there are variables
  pub lows-few : {most : ℕ} → (sizes_of t).variables ≤ most → length (row_at t w k).lows ≤ most
  unfolding row_at
  lows-few h = part-within (lows_of t w) (k * (sizes_of t).variables) h

  pub highs-few : {most : ℕ} → (sizes_of t).variables ≤ most → length (row_at t w k).highs ≤ most
  unfolding row_at
  highs-few h = part-within (highs_of t w) (k * (sizes_of t).variables) h

  low-past : (v : ℕ) → (sizes_of t).variables ≤ v → word_of (row_at t w k).lows v ≡ pos 0
  low-past v h = get_or-eq_default (row_at t w k).lows (pos 0) (lows-few h)

  high-past : (v : ℕ) → (sizes_of t).variables ≤ v → word_of (row_at t w k).highs v ≡ pos 0
  high-past v h = get_or-eq_default (row_at t w k).highs (pos 0) (highs-few h)

  pub past-inside : {vs : List ℤ} → Inside vs (row_at t w k) → Past t vs
  past-inside i v h = only_zero (low-past v h) (high-past v h) (i.at v)

  row_inside : (vs : List ℤ) → Past t vs
      → ((v : ℕ) → v < (sizes_of t).variables → Within (word_of (row_at t w k).lows v) (word_of (row_at t w k).highs v) (word_of vs v))
      → Inside vs (row_at t w k)
  row_inside vs past h = record {
    at = λ v. elim (dec_lt v (sizes_of t).variables) [
      | yes l ↦ h v l
      | no l ↦ let le : (sizes_of t).variables ≤ v = omega arith in rw (low-past v le, high-past v le, past v le) (first (≤ℤ_refl (pos 0)))
    ];
  }

  pub within-inside : {vs : List ℤ} (r : Row) → Past t vs → row_within_of (sizes_of t).variables r (row_at t w k) ≡ true → Inside vs r
      → Inside vs (row_at t w k)
  unfolding row_within_of
  within-inside {vs} r past e i =
      row_inside vs past (λ v l.
      from_to-only _ _ (word_of vs v) (within-holds (range_of r v) (range_of (row_at t w k) v)
      (all_below-each (λ v. within_of (range_of r v) (range_of (row_at t w k) v)) (sizes_of t).variables e v l) (word_of vs v) (from_to-holds (i.at v))))

  pub start-inside : (sizes_of t).variables ≤ 16 → holds_start t (row_at t w k) ≡ true → Inside (values_of t) (row_at t w k)
  unfolding holds_start
  start-inside few e =
      row_inside (values_of t) (λ v h. start_word t v few ∙ get_or-eq_default (starts_of t) (pos 0) (starts-few t h)) (λ v l.
      let z = word_of (starts_of t) v in
      rw (start_word t v few) (from_to-only _ _ z (within-holds (span z z) (range_of (row_at t w k) v)
      (all_below-each (λ v. within_of (span (word_of (starts_of t) v) (word_of (starts_of t) v)) (range_of (row_at t w k) v)) (sizes_of t).variables e v l)
      z (first (≤ℤ_refl z)))))

-- in a proposal of the right length a row is as long as there are variables
module _ (t w : List ℤ) (whole : length w ≡ proposal_length t w) (k : ℕ) (below : k < rows_of t) where
  row_fits : k * (sizes_of t).variables + (sizes_of t).variables ≤ intervals_of t w
  unfolding intervals_of
  row_fits = omega (arith, suc-mul k (sizes_of t).variables, mul-le-mul_right (sizes_of t).variables below)

  pub lows-length : length (row_at t w k).lows ≡ (sizes_of t).variables
  unfolding row_at lows_of proposal_length
  lows-length =
      let n = part_length w (lows_from t w) (intervals_of t w) (omega arith) in
      part_length (lows_of t w) (k * (sizes_of t).variables) (sizes_of t).variables (omega (arith, row_fits))

  pub highs-length : length (row_at t w k).highs ≡ (sizes_of t).variables
  unfolding row_at highs_of proposal_length
  highs-length =
      let n = part_length w (lows_from t w + intervals_of t w) (intervals_of t w) (omega arith) in
      part_length (highs_of t w) (k * (sizes_of t).variables) (sizes_of t).variables (omega (arith, row_fits))
