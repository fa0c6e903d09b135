-- What the operations on rows make of a row keeps the values that lie within it, and its ends lie within those it came from.
-- Assumes nothing.
use mathlib.Core.Path.{◌≡◌, refl, sym}
use mathlib.Core.Bool.{Bool, true}
use mathlib.Core.List.{List, [], ◌∷◌}
use Prim.Native.Nat.{ℕ, zero, suc, ◌<◌, ◌≤◌}
use native.Mathlib.Numerals.{one-add}
use native.Mathlib.Omega.{arith}
use lib.IntN.{ℤ, pos}
use lib.ListN.{set, drop, get_or-eq_default}
use lib.Seq.{get_or-drop}
use lib.Signed.{◌≤ℤ◌, ≤ℤ_refl}
use Rattle.interval.specs.Interval.{Within, Holds}
use Rattle.interval.specs.Lattice.{◌⊑◌, meet_of}
use Rattle.interval.specs.Compare.{allows}
use Rattle.interval.specs.declared.Interval.{Interval}
use Rattle.interval.specs.declared.Decision.{Decision}
use Rattle.interval.proofs.IntegerLaws.{≤_trans, min-left, min-right, max-left, max-right, min-above, max-below, min-is, max-is}
use Rattle.interval.proofs.IntervalLaws.{first, last, widen, from_to-holds, from_to-only}
use Rattle.interval.proofs.LatticeLaws.{within-holds, from_to-mono, Ordered, meet-ordered, meet-contains, meet-within-left}
use Rattle.words.specs.Words.{word_of}
use Rattle.words.specs.Tabulate.{tabulate}
use Rattle.words.proofs.FillLaws.{length-tabulate, get_d_tabulate}
use Rattle.analysis.specs.Rows.{Row, row_of, range_of, slots_of, row_if, then_row, put_of, meet_at_of, each_rest, each, join_rows_of, Inside, Kept, MaybeWithin}
use Rattle.analysis.specs.Analysis.{branch_of}
use Rattle.std.specs.Int.{int_min, int_max}
use Rattle.std.specs.Prelude.{None, Option, Some}

-- ---- a word put in place, and words joined place by place
-- what holds of every word, and of the word put in, holds of every word afterwards; past the end nothing is put in
pub set_all : (P : ℕ → ℤ → Type 0) (l : List ℤ) (v : ℕ) (x : ℤ) → ((w : ℕ) → P w (word_of l w)) → P v x → (w : ℕ) → P w (word_of (set l v x) w)
set_all P [] v x h k w = h w
set_all P (y ∷ l) zero x h k zero = k
set_all P (y ∷ l) zero x h k (suc w) = h (suc w)
set_all P (y ∷ l) (suc v) x h k zero = h zero
set_all P (y ∷ l) (suc v) x h k (suc w) = set_all (λ u. P (suc u)) l v x (λ u. h (suc u)) k w

-- past both ends f is of two zeros, which must be the 0 that is read there
module _ (f : ℤ → ℤ → ℤ) (z : f (pos 0) (pos 0) ≡ pos 0) where
  rest-is : (m : List ℤ) (v : ℕ) → word_of (each_rest f m) v ≡ f (pos 0) (word_of m v)
  unfolding each_rest
  rest-is [] v = sym z
  rest-is (y ∷ m) zero = refl
  rest-is (y ∷ m) (suc v) = rest-is m v

  pub each-is : (l m : List ℤ) (v : ℕ) → word_of (each f l m) v ≡ f (word_of l v) (word_of m v)
  unfolding each
  each-is [] m v = rest-is m v
  each-is (x ∷ l) m zero = refl
  each-is (x ∷ l) m (suc v) = rw (get_or-drop 1 m v (pos 0), one-add v) at (each-is l (drop 1 m) v)

-- ---- the sixteen slots: the words in their places, and none past them
module _ (ws : List ℤ) (v : ℕ) where
  pub slots-within : v < 16 → word_of (slots_of ws) v ≡ word_of ws v
  unfolding slots_of
  slots-within h = get_d_tabulate (λ i. word_of ws i) 16 v (pos 0) h

  pub slots-past : 16 ≤ v → word_of (slots_of ws) v ≡ pos 0
  unfolding slots_of
  slots-past h = get_or-eq_default (tabulate (λ i. word_of ws i) 16) (pos 0) {n = v} (let long = length-tabulate (λ i. word_of ws i) 16 in omega arith)

pub ruleset slot_words = (slots-within, slots-past)

-- ---- rows by their ends
-- each end of r lies at that of s or further in. This says more than `RowWithin`, which looks at no ends that hold no number between them: a join
-- of two rows takes the lesser and the greater end, whatever lies between
pub record Tighter (r s : Row) : Type 0 where
  pub low : (v : ℕ) → word_of s.lows v ≤ℤ word_of r.lows v
  pub high : (v : ℕ) → word_of r.highs v ≤ℤ word_of s.highs v

pub tighter-refl : (r : Row) → Tighter r r
tighter-refl r = record { low = λ v. ≤ℤ_refl _; high = λ v. ≤ℤ_refl _ }

tighter-trans : {r s t : Row} → Tighter r s → Tighter s t → Tighter r t
tighter-trans h k = record { low = λ v. ≤_trans (k.low v) (h.low v); high = λ v. ≤_trans (h.high v) (k.high v) }

inside-mono : {vs : List ℤ} {r s : Row} → Tighter r s → Inside vs r → Inside vs s
inside-mono h i = record { at = λ v. widen (h.low v) (h.high v) (i.at v) }

-- the join of two rows is the tightest around both
abbrev pub joined : Row → Row → Row
joined r s = row_of (each int_min r.lows s.lows) (each int_max r.highs s.highs)

module _ (r s : Row) where
  pub joined-low-is : (v : ℕ) → word_of (joined r s).lows v ≡ int_min (word_of r.lows v) (word_of s.lows v)
  joined-low-is v = each-is int_min (min-is (≤ℤ_refl (pos 0))) r.lows s.lows v

  pub joined-high-is : (v : ℕ) → word_of (joined r s).highs v ≡ int_max (word_of r.highs v) (word_of s.highs v)
  joined-high-is v = each-is int_max (max-is (≤ℤ_refl (pos 0))) r.highs s.highs v

  left-tighter : Tighter r (joined r s)
  left-tighter = record { low = λ v. rw (joined-low-is v) (min-left _ _); high = λ v. rw (joined-high-is v) (max-left _ _) }

  right-tighter : Tighter s (joined r s)
  right-tighter = record { low = λ v. rw (joined-low-is v) (min-right _ _); high = λ v. rw (joined-high-is v) (max-right _ _) }

  joined-tighter : {t : Row} → Tighter r t → Tighter s t → Tighter (joined r s) t
  joined-tighter h k = record { low = λ v. rw (joined-low-is v) (min-above (h.low v) (k.low v)); high = λ v. rw (joined-high-is v) (max-below (h.high v) (k.high v)) }

-- ---- values stay within what is made of a row
module _ (vs : List ℤ) where
  -- what kept them is a row
  pub kept-some : (P : Option Row → Type 0) (s : Option Row) → Kept vs s → ((r : Row) → Inside vs r → P (Some r)) → P s
  kept-some P None k h = absurd k
  kept-some P (Some r) k h = h r k

  put_keeps : (r : Row) (v : ℕ) (s : Option Interval) → Inside vs r → Holds s (word_of vs v) → Kept vs (put_of r v s)
  unfolding put_of
  put_keeps r v None i h = absurd h
  put_keeps r v (Some e) i h = record {
    at = λ w. record {
      low = set_all (λ u z. z ≤ℤ word_of vs u) r.lows v e.low (λ u. (i.at u).low) h.low w;
      high = set_all (λ u z. word_of vs u ≤ℤ z) r.highs v e.high (λ u. (i.at u).high) h.high w;
    };
  }

  pub meet_at-keeps : (r : Row) (v : ℕ) (s : Option Interval) → Inside vs r → Holds s (word_of vs v) → Kept vs (meet_at_of r v s)
  unfolding meet_at_of
  meet_at-keeps r v s i h = put_keeps r v (meet_of (range_of r v) s) i (meet-contains (range_of r v) s (word_of vs v) (from_to-holds (i.at v)) h)

  pub then_keeps : (s : Option Row) (f : Row → Option Row) → Kept vs s → ((r : Row) → Inside vs r → Kept vs (f r)) → Kept vs (then_row s f)
  unfolding then_row
  then_keeps s f = kept-some (λ t. Kept vs (then_row t f)) s

  pub join_rows-keeps-left : (s t : Option Row) → Kept vs s → Kept vs (join_rows_of s t)
  unfolding join_rows_of
  join_rows-keeps-left None t k = absurd k
  join_rows-keeps-left (Some r) None k = k
  join_rows-keeps-left (Some r) (Some t) k = inside-mono (left-tighter r t) k

  pub join_rows-keeps-right : (s t : Option Row) → Kept vs t → Kept vs (join_rows_of s t)
  unfolding join_rows_of
  join_rows-keeps-right None t k = k
  join_rows-keeps-right (Some r) None k = absurd k
  join_rows-keeps-right (Some r) (Some t) k = inside-mono (right-tighter r t) k

  -- the row of a branch that is taken
  pub branch_keeps : (d : Decision) (w : Bool) (s : Option Row) → allows d w ≡ true → Kept vs s → Kept vs (branch_of d w s)
  unfolding row_if
  branch_keeps d w s e k = rw e k

-- ---- what is made of a row lies within it
abbrev pub MaybeTighter : Option Row → Row → Type 0
MaybeTighter None s = Unit {0}
MaybeTighter (Some r) s = Tighter r s

-- ends in their order that lie within the variable's interval are further in
put-tighter : (r : Row) (v : ℕ) (s : Option Interval) → Ordered s → s ⊑ range_of r v → MaybeTighter (put_of r v s) r
unfolding put_of
put-tighter r v None o w = tt
put-tighter r v (Some e) o w = record {
  low = set_all (λ u z. word_of r.lows u ≤ℤ z) r.lows v e.low (λ u. ≤ℤ_refl _) (end e.low (first o)).low;
  high = set_all (λ u z. z ≤ℤ word_of r.highs u) r.highs v e.high (λ u. ≤ℤ_refl _) (end e.high (last o)).high;
}
  where
    end : (z : ℤ) → Within e.low e.high z → Within (word_of r.lows v) (word_of r.highs v) z
    end z p = from_to-only (word_of r.lows v) (word_of r.highs v) z (within-holds (Some e) (range_of r v) w z p)

pub meet_at-tighter : (r : Row) (v : ℕ) (s : Option Interval) → MaybeTighter (meet_at_of r v s) r
unfolding meet_at_of
meet_at-tighter r v s = put-tighter r v (meet_of (range_of r v) s) (meet-ordered (range_of r v) s) (meet-within-left (range_of r v) s)

pub then-tighter : (s : Option Row) (f : Row → Option Row) (r : Row) → MaybeTighter s r → ((t : Row) → MaybeTighter (f t) t) → MaybeTighter (then_row s f) r
unfolding then_row
then-tighter None f r h g = tt
then-tighter (Some t) f r h g = by (f t) (g t)
  where
    by : (u : Option Row) → MaybeTighter u t → MaybeTighter u r
    by None k = tt
    by (Some u) k = tighter-trans k h

pub join_rows-tighter : (s t : Option Row) (r : Row) → MaybeTighter s r → MaybeTighter t r → MaybeTighter (join_rows_of s t) r
unfolding join_rows_of
join_rows-tighter None t r h k = k
join_rows-tighter (Some s) None r h k = h
join_rows-tighter (Some s) (Some t) r h k = joined-tighter s t h k

pub tighter-within : (s : Option Row) (r : Row) → MaybeTighter s r → MaybeWithin s r
tighter-within None r h = tt
tighter-within (Some s) r h = record { at = λ v. from_to-mono (h.low v) (h.high v) }
