-- Rows as the code looks at them, two ends at a time: within another, met with another, and with words written.
-- Assumes nothing.
use Prim.Native.Nat.{ℕ, zero, suc, ◌<◌, ◌≤◌}
use mathlib.Core.Path.{◌≡◌, refl, sym, subst, ◌∙◌}
use mathlib.Core.Bool.{Bool, true, false, not, cond, ◌&&◌}
use mathlib.Core.List.{List, [], ◌∷◌}
use native.Mathlib.Omega.{arith}
use borrow.Author.Tests.{eqb-true, eqb-false}
use lib.Dec.{eqb}
use lib.IntN.{ℤ, pos}
use lib.ListN.{length, set, length-set}
use lib.Seq.{get_or-set_same, get_or-set_other, set_out}
use lib.Signed.{le_z, ◌<ℤ◌, ≤ℤ_refl}
use Rattle.words.specs.Words.{word_of}
use Rattle.words.specs.First.{all_below}
use Rattle.words.proofs.Bools.{clash, and-true, and_left, and_right}
use Rattle.words.proofs.FirstLaws.{all_below-each, all_below-same}
use Rattle.words.proofs.FillLaws.{length-tabulate}
use Rattle.interval.specs.Interval.{on_ends, from_to, span}
use Rattle.interval.specs.Lattice.{is_none_of, within_of, meet_of}
use Rattle.interval.proofs.IntegerLaws.{le_z-cases, le_z-yes', le-true, le-false, ≤_trans, ≤-<-trans, <-≤-trans, min-left, min-right, max-left, max-right, min-above, max-below, min-is, max-is}
use Rattle.interval.proofs.Machine.{same_truth}
use Rattle.analysis.specs.declared.Row.{Row}
use Rattle.analysis.specs.Rows.{row_of, range_of, slots_of, each}
use Rattle.analysis.proofs.RowLaws.{each-is, slots-within}
use Rattle.rules.specs.Outcomes.{row_within_of}
use Rattle.rules.specs.Ready.{Ordered}
use Rattle.std.specs.Int.{int_min, int_max}
use Rattle.std.specs.Prelude.{None}

-- ---- the test at a variable, and the loop over the variables
-- the interval of v in r lies within that in s
abbrev pub Lies : Row → Row → ℕ → Bool
Lies r s v = within_of (range_of r v) (range_of s v)

-- an interval whose ends are in order lies within another exactly when its ends do; nothing lies within one that is none
pub ends-within : (a b c d : ℤ) → le_z a b ≡ true → le_z c a && le_z b d ≡ within_of (from_to a b) (from_to c d)
unfolding within_of on_ends
ends-within a b c d e = rw (e, e) (by (le_z c d) refl)
  where
    both : (t : Bool) → le_z c a && le_z b d ≡ t → le_z c d ≡ false → le_z c a && le_z b d ≡ false
    both false q f = q
    both true q f =
        let low = le_z-yes' c a (and_left (le_z c a) (le_z b d) q) in
        let high = le_z-yes' b d (and_right (le_z c a) (le_z b d) q) in
        clash (sym (le-true (≤_trans low (≤_trans (le_z-yes' a b e) high))) ∙ f)

    by : (t : Bool) → le_z c d ≡ t → le_z c a && le_z b d ≡ on_ends false (λ c d. le_z c a && le_z b d) (cond t (span c d) None)
    by true f = rw f
    by false f = both (le_z c a && le_z b d) refl f

-- ---- met rows
from_to-none : {lo hi : ℤ} → hi <ℤ lo → None ≡ from_to lo hi
from_to-none h = rw (le-false h)

-- the interval of v in both isn't empty
abbrev pub Meets : Row → Row → ℕ → Bool
Meets r s v = not (is_none_of (meet_of (range_of r v) (range_of s v)))

module _ (a b c d : ℤ) where
  meet-from_to : meet_of (from_to a b) (from_to c d) ≡ from_to (int_max a c) (int_min b d)
  unfolding meet_of on_ends
  meet-from_to =
      le_z-cases (λ x. meet_of x (from_to c d) ≡ from_to (int_max a c) (int_min b d)) a b (span a b) None
      (λ h.
      le_z-cases (λ y. meet_of (span a b) y ≡ from_to (int_max a c) (int_min b d)) c d (span c d) None
      (λ k. rw (le-true h, le-true k))
      (λ k. rw (le-true h) (from_to-none (≤-<-trans (min-right b d) (<-≤-trans k (max-right a c))))))
      (λ h. from_to-none (≤-<-trans (min-left b d) (<-≤-trans h (max-left a c))))

  -- what is met isn't none where its ends are in order
  pub meet-some : not (is_none_of (meet_of (from_to a b) (from_to c d))) ≡ le_z (int_max a c) (int_min b d)
  unfolding on_ends
  meet-some = rw meet-from_to (by (le_z (int_max a c) (int_min b d)) refl)
    where
      by : (t : Bool) → le_z (int_max a c) (int_min b d) ≡ t → not (is_none_of (cond t (span (int_max a c) (int_min b d)) None)) ≡ t
      by true e = rw e
      by false e = refl

  -- which they are where neither begins past the other's end
  pub overlap-is : le_z a b ≡ true → le_z c d ≡ true → le_z a d && le_z c b ≡ not (is_none_of (meet_of (from_to a b) (from_to c d)))
  overlap-is e f = rw meet-some (same_truth _ _ to from)
    where
      to : le_z a d && le_z c b ≡ true → le_z (int_max a c) (int_min b d) ≡ true
      to q =
          let first = le_z-yes' a d (and_left (le_z a d) (le_z c b) q) in
          let second = le_z-yes' c b (and_right (le_z a d) (le_z c b) q) in
          le-true (max-below (min-above (le_z-yes' a b e) first) (min-above second (le_z-yes' c d f)))

      from : le_z (int_max a c) (int_min b d) ≡ true → le_z a d && le_z c b ≡ true
      from q =
          let met = le_z-yes' (int_max a c) (int_min b d) q in
          and-true (le-true (≤_trans (max-left a c) (≤_trans met (min-right b d)))) (le-true (≤_trans (max-right a c) (≤_trans met (min-left b d))))

-- the row a..b met with the row c..d
abbrev pub met_of : List ℤ → List ℤ → List ℤ → List ℤ → Row
met_of a b c d = row_of (each int_max a c) (each int_min b d)

-- ---- the tests at v of rows that can be read
module _ {l h : List ℤ} {n v : ℕ} {x : Bool} (o : Ordered l h n) (below : v < n) where
  pub lies-is : (s : Row) → x ≡ le_z (word_of s.lows v) (word_of l v) && le_z (word_of h v) (word_of s.highs v) → x ≡ Lies (row_of l h) s v
  lies-is s q = q ∙ ends-within (word_of l v) (word_of h v) (word_of s.lows v) (word_of s.highs v) (o.ends v below)

  pub meets-is : {m k : List ℤ} → Ordered m k n → x ≡ le_z (word_of l v) (word_of k v) && le_z (word_of m v) (word_of h v) → x ≡ Meets (row_of l h) (row_of m k) v
  meets-is {m} {k} p q = q ∙ overlap-is (word_of l v) (word_of h v) (word_of m v) (word_of k v) (o.ends v below) (p.ends v below)

-- where they meet, the ends of the met row are in order too
pub met-is : (a b c d : List ℤ) (s : Row) {n v : ℕ} {x : Bool} → all_below (Meets (row_of a b) (row_of c d)) n ≡ true → v < n
    → x ≡ le_z (word_of s.lows v) (int_max (word_of a v) (word_of c v)) && le_z (int_min (word_of b v) (word_of d v)) (word_of s.highs v)
    → x ≡ Lies (met_of a b c d) s v
met-is a b c d s {n} {v} all below q =
    let met = sym (meet-some (word_of a v) (word_of b v) (word_of c v) (word_of d v)) ∙ all_below-each (Meets (row_of a b) (row_of c d)) n all v below in
    rw (each-is int_max (max-is (≤ℤ_refl (pos 0))) a c v, each-is int_min (min-is (≤ℤ_refl (pos 0))) b d v)
    (q ∙ ends-within (int_max (word_of a v) (word_of c v)) (int_min (word_of b v) (word_of d v)) (word_of s.lows v) (word_of s.highs v) met)

-- ---- words written
module _ (ws : List ℤ) {v i : ℕ} (z : ℤ) where
  written-here : i ≡ v → i < length ws → word_of (set ws v z) i ≡ z
  written-here e l = subst (λ (k : ℕ). word_of (set ws k z) i ≡ z) e (get_or-set_same ws i z (pos 0) l)

  written-other : (i ≡ v → ⊥) → word_of (set ws v z) i ≡ word_of ws i
  written-other e = get_or-set_other ws v i z (pos 0) e

-- a at v, and then b at x
module _ (ws : List ℤ) (v x : ℕ) {i : ℕ} (a b : ℤ) (l : i < length ws) where
  pub written_last : i ≡ x → word_of (set (set ws v a) x b) i ≡ b
  written_last e = written-here (set ws v a) b e (simp length-set l)

  pub written-first : (i ≡ x → ⊥) → i ≡ v → word_of (set (set ws v a) x b) i ≡ a
  written-first n e = written-other (set ws v a) b n ∙ written-here ws a e l

  pub written-neither : (i ≡ x → ⊥) → (i ≡ v → ⊥) → word_of (set (set ws v a) x b) i ≡ word_of ws i
  written-neither n m = written-other (set ws v a) b n ∙ written-other ws a m

-- ends in order that are written into a row whose ends are
pub written-ordered : {l h : List ℤ} {n : ℕ} (v : ℕ) (a b : ℤ) → Ordered l h n → le_z a b ≡ true → Ordered (set l v a) (set h v b) n
written-ordered {l} {h} {n} v a b o e =
    record { low = rw (length-set l v a) o.low; high = rw (length-set h v b) o.high; ends = λ i k. by i k (eqb i v) refl }
  where
    by : (i : ℕ) → i < n → (t : Bool) → eqb i v ≡ t → le_z (word_of (set l v a) i) (word_of (set h v b) i) ≡ true
    by i k true q =
        let same = eqb-true i v q in
        rw (written-here l a same (omega (arith, o.low)), written-here h b same (omega (arith, o.high))) e
    by i k false q = let other = eqb-false i v q in rw (written-other l a other, written-other h b other) (o.ends i k)

-- a second word past the end isn't written
pub written_once : (ws : List ℤ) (v p : ℕ) (a b : ℤ) → length ws ≤ p → set (set ws v a) p b ≡ set ws v a
written_once ws v p a b l = set_out (set ws v a) p b (simp length-set l)

-- ---- the sixteen slots of a row of n variables, with the same words written: its intervals are those of the row
set_same : (l m : List ℤ) (v i : ℕ) (z : ℤ) → i < length l → i < length m → word_of l i ≡ word_of m i → word_of (set l v z) i ≡ word_of (set m v z) i
set_same [] m v i z h k e = absurd (omega arith)
set_same (x ∷ l) [] v i z h k e = absurd (omega arith)
set_same (x ∷ l) (y ∷ m) zero zero z h k e = refl
set_same (x ∷ l) (y ∷ m) zero (suc i) z h k e = e
set_same (x ∷ l) (y ∷ m) (suc v) zero z h k e = e
set_same (x ∷ l) (y ∷ m) (suc v) (suc i) z h k e = set_same l m v i z (omega arith) (omega arith) e

pub slots_length : (ws : List ℤ) → length (slots_of ws) ≡ 16
unfolding slots_of
slots_length ws = length-tabulate (λ i. word_of ws i) 16

slot-written : (ws : List ℤ) (v x i : ℕ) (a b : ℤ) → i < length ws → i < 16 → word_of (set (set (slots_of ws) v a) x b) i ≡ word_of (set (set ws v a) x b) i
slot-written ws v x i a b h k =
    let long = slots_length ws in
    set_same (set (slots_of ws) v a) (set ws v a) x i b (simp length-set (omega arith)) (simp length-set h)
    (set_same (slots_of ws) ws v i a (omega arith) h (slots-within ws i k))

-- two lists of ends, with a..b written at v and then c..d at x
abbrev pub written_row : List ℤ → List ℤ → ℕ → ℤ → ℤ → ℕ → ℤ → ℤ → Row
written_row lows highs v a b x c d = row_of (set (set lows v a) x c) (set (set highs v b) x d)

module _ (lows highs : List ℤ) (n : ℕ) (few : n ≤ 16) (low : n ≤ length lows) (high : n ≤ length highs) where
  pub slots-within-is :
      (v : ℕ) (a b : ℤ) (x : ℕ) (c d : ℤ) (s : Row)
      → row_within_of n (written_row lows highs v a b x c d) s ≡ row_within_of n (written_row (slots_of lows) (slots_of highs) v a b x c d) s
  unfolding row_within_of
  slots-within-is v a b x c d s =
      all_below-same _ _ n
      (λ i l. rw (slot-written lows v x i a c (omega arith) (omega arith), slot-written highs v x i b d (omega arith) (omega arith)) refl)
