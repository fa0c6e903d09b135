-- The first n intervals of a row in sixteen slots: all that the definitions of a pass look at.
-- Assumes nothing.
use Rattle.std.proofs.Common.{◌≡◌, ℕ, ◌<◌, ◌≤◌, Bool, true, false, List, ℤ, pos, length, take, set, refl, sym, ap, ◌∙◌, arith}
use Rattle.std.proofs.lemmas.List.{get_or-set_same, get_or-set_other}
use Rattle.std.specs.Prelude.{Option, None, Some}
use Rattle.std.specs.Array.{AllOfLen}
use Rattle.words.specs.Words.{word_of}
use Rattle.words.specs.Tabulate.{tabulate}
use Rattle.words.proofs.FillLaws.{length-tabulate, get_d_tabulate, tabulate-same}
use Rattle.analysis.specs.declared.Row.{Row}
use Rattle.analysis.specs.Rows.{row_of, slots_of, own_of}
use Rattle.analysis.proofs.RowLaws.{slots-within}
use Rattle.proposer.specs.Widen.{low_to, high_to, covers_of, trimmed_of, widened_of, Places, place_in, store_of, take_if, take_by, take_in}
use Rattle.proposer.specs.Passes.{row_in}
use Rattle.iterator.specs.Arrays.{Clear}
use Rattle.iterator.proofs.TabulateLaws.{tabulate-front, tabulate-one, tabulate-equal}
use Rattle.words.proofs.FirstLaws.{all_below-same}

-- a row has so many slots
pub record Slots (r : Row) : Type 0 where
  pub lows : length r.lows ≡ 16
  pub highs : length r.highs ≡ 16

module _ (n : ℕ) (few : n ≤ 16) (r : Row) where
  -- where it is read by its front
  pub trimmed-front : Slots r → row_of (take n r.lows) (take n r.highs) ≡ trimmed_of n r
  unfolding trimmed_of
  trimmed-front slots = rw (tabulate-front r.lows n (pos 0) (omega (arith, slots.lows)), tabulate-front r.highs n (pos 0) (omega (arith, slots.highs))) refl

  slots-same : (l : List ℤ) → tabulate (word_of (slots_of (tabulate (word_of l) n))) n ≡ tabulate (word_of l) n
  slots-same l =
      tabulate-same _ (word_of l) n (λ i b. slots-within (tabulate (word_of l) n) i (omega arith) ∙ get_d_tabulate (word_of l) n i (pos 0) b)

  -- in sixteen slots of its own
  pub own-trimmed : trimmed_of n (own_of (trimmed_of n r)) ≡ trimmed_of n r
  unfolding trimmed_of
  own-trimmed = rw (slots-same r.lows, slots-same r.highs) refl

  pub own-clear : Clear n (own_of (trimmed_of n r))
  own-clear = sym (ap (λ (s : Row). own_of s) own-trimmed)

  -- where it is zeros
  pub zeros-trimmed : AllOfLen (λ z. z ≡ pos 0) r.lows 16 × AllOfLen (λ z. z ≡ pos 0) r.highs 16 → trimmed_of n r ≡ row_in n None
  unfolding trimmed_of row_in
  zeros-trimmed h = rw (
    tabulate-equal (word_of r.lows) n (pos 0) (λ i b. h.0.at i (pos 0) (omega arith)),
    tabulate-equal (word_of r.highs) n (pos 0) (λ i b. h.1.at i (pos 0) (omega arith)),
  ) refl

-- ---- a row that is met with the row s
module _ (n : ℕ) (r s : Row) where
  pub covers-trimmed : covers_of n (trimmed_of n r) s ≡ covers_of n r s
  unfolding covers_of trimmed_of
  covers-trimmed = all_below-same _ _ n (λ v l. rw (get_d_tabulate (word_of r.lows) n v (pos 0) l, get_d_tabulate (word_of r.highs) n v (pos 0) l) refl)

  pub widened-trimmed : (ts : List ℤ) → widened_of n ts (trimmed_of n r) s ≡ widened_of n ts r s
  unfolding widened_of trimmed_of
  widened-trimmed ts = rw (
    tabulate-same (λ v. low_to ts (word_of (tabulate (word_of r.lows) n) v) (word_of s.lows v)) (λ v. low_to ts (word_of r.lows v) (word_of s.lows v)) n
        (λ v l. rw (get_d_tabulate (word_of r.lows) n v (pos 0) l) refl),
    tabulate-same (λ v. high_to ts (word_of (tabulate (word_of r.highs) n) v) (word_of s.highs v)) (λ v. high_to ts (word_of r.highs v) (word_of s.highs v)) n
        (λ v l. rw (get_d_tabulate (word_of r.highs) n v (pos 0) l) refl),
  ) refl

-- ---- of a row that is taken in only the first n intervals count
module _ (n : ℕ) (s : Row) where
  low-same : (v : ℕ) → v < n → word_of s.lows v ≡ word_of (tabulate (word_of s.lows) n) v
  low-same v l = sym (get_d_tabulate (word_of s.lows) n v (pos 0) l)

  high-same : (v : ℕ) → v < n → word_of s.highs v ≡ word_of (tabulate (word_of s.highs) n) v
  high-same v l = sym (get_d_tabulate (word_of s.highs) n v (pos 0) l)

  covers-agree : (r : Row) → covers_of n r s ≡ covers_of n r (trimmed_of n s)
  unfolding covers_of trimmed_of
  covers-agree r = all_below-same _ _ n (λ v l. rw (low-same v l, high-same v l) refl)

  widened-agree : (ts : List ℤ) (r : Row) → widened_of n ts r s ≡ widened_of n ts r (trimmed_of n s)
  unfolding widened_of trimmed_of
  widened-agree ts r = rw (
    tabulate-same (λ v. low_to ts (word_of r.lows v) (word_of s.lows v)) (λ v. low_to ts (word_of r.lows v) (word_of (tabulate (word_of s.lows) n) v)) n
        (λ v l. ap (λ (z : ℤ). low_to ts (word_of r.lows v) z) (low-same v l)),
    tabulate-same (λ v. high_to ts (word_of r.highs v) (word_of s.highs v)) (λ v. high_to ts (word_of r.highs v) (word_of (tabulate (word_of s.highs) n) v)) n
        (λ v l. ap (λ (z : ℤ). high_to ts (word_of r.highs v) z) (high-same v l)),
  ) refl

  trimmed-agree : trimmed_of n s ≡ trimmed_of n (trimmed_of n s)
  unfolding trimmed_of
  trimmed-agree =
      let low = tabulate-same (word_of s.lows) (word_of (tabulate (word_of s.lows) n)) n low-same in
      let high = tabulate-same (word_of s.highs) (word_of (tabulate (word_of s.highs) n)) n high-same in
      ap (λ (l : List ℤ). row_of l (tabulate (word_of s.highs) n)) low ∙ ap (λ (l : List ℤ). row_of (tabulate (word_of (tabulate (word_of s.lows) n)) n) l) high

  pub take_trimmed : (ts : List ℤ) (a : Places) (k : ℕ) → take_in n ts a k s ≡ take_in n ts a k (trimmed_of n s)
  unfolding take_in take_by take_if
  take_trimmed ts a k = by (place_in a k)
    where
      if : (b : Bool) (r : Row) → take_if b n ts a k r s ≡ take_if b n ts a k r (trimmed_of n s)
      if true r = refl
      if false r = ap (store_of a k) (widened-agree ts r)

      by : (m : Option Row) → take_by m n ts a k s ≡ take_by m n ts a k (trimmed_of n s)
      by None = ap (store_of a k) trimmed-agree
      by (Some r) = ap (λ (b : Bool). take_if b n ts a k r s) (covers-agree r) ∙ if (covers_of n r (trimmed_of n s)) r

-- ---- the interval of one variable put in
module _ (n v : ℕ) (below : v < n) where
  put-front : (l : List ℤ) (x : ℤ) → v < length l → tabulate (word_of (set l v x)) n ≡ set (tabulate (word_of l) n) v x
  put-front l x low =
      tabulate-one (tabulate (word_of l) n) n (pos 0) (word_of (set l v x)) v (length-tabulate (word_of l) n) below
      (λ i b d. get_or-set_other l v i x (pos 0) d ∙ sym (get_d_tabulate (word_of l) n i (pos 0) b))
      ∙ ap (λ (y : ℤ). set (tabulate (word_of l) n) v y) (get_or-set_same l v x (pos 0) low)

  pub put_trimmed : (r : Row) (lo hi : ℤ) → v < length r.lows → v < length r.highs
      → trimmed_of n (row_of (set r.lows v lo) (set r.highs v hi)) ≡ row_of (set (trimmed_of n r).lows v lo) (set (trimmed_of n r).highs v hi)
  unfolding trimmed_of
  put_trimmed r lo hi h k = rw (put-front r.lows lo h, put-front r.highs hi k) refl
