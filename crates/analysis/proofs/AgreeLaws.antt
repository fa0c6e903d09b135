-- Two rows that agree on every variable that a tree reads give it the same interval, decision and alarms (document 02, request 3), whatever a choice
-- narrows on the way: what narrowing makes of both agrees again.
-- Assumes nothing.
use Prim.Native.Nat.{ℕ, max, ◌≤◌}
use mathlib.Core.Path.{◌≡◌, refl, sym, ap, ap₂, ◌∙◌}
use mathlib.Core.Bool.{Bool, true, false, cond, ◌||◌}
use mathlib.Core.List.{List, [], ◌∷◌, ◌++◌}
use native.Mathlib.Omega.{arith}
use borrow.Author.Tests.{eq-eqb}
use lib.IntN.{ℤ, pos}
use lib.ListN.{length, set, drop, length-set, length-drop, get_or-eq_default}
use lib.Seq.{get_or-set_other}
use lib.Signed.{le_z, ≤ℤ_refl}
use Rattle.interval.specs.Interval.{from_to, on_ends, Within, span}
use Rattle.interval.specs.Lattice.{join_of, meet_of}
use Rattle.interval.specs.Arithmetic.{negate_of, operate_of}
use Rattle.interval.specs.Compare.{allows, both_of, either_of, opposite_of, compare_of}
use Rattle.interval.specs.Narrow.{cuts_of}
use Rattle.interval.specs.declared.Decision.{Decision}
use Rattle.interval.specs.declared.Comparison.{Comparison}
use Rattle.interval.specs.declared.Interval.{Interval}
use Rattle.interval.proofs.IntegerLaws.{min-is, max-is, ≤-antisym}
use Rattle.interval.proofs.IntervalLaws.{first, last}
use Rattle.interval.proofs.LatticeLaws.{within-holds, meet-within-left, Ordered, meet-ordered}
use Rattle.std.proofs.lemmas.Grind.{common_steps}
use Rattle.words.specs.Words.{word_of}
use Rattle.words.proofs.Bools.{clash, or_left, or_right}
use Rattle.table.specs.Tree.{Arith, constant, input, variable, negation, binary, choice, no_arith, Cond, compare, both, either, is_not, no_cond}
use Rattle.analysis.specs.declared.Alarm.{Alarm}
use Rattle.analysis.specs.Alarms.{told_of}
use Rattle.analysis.specs.Rows.{Row, range_of, row_if, then_row, put_of, meet_at_of, each_rest, each, join_rows_of}
use Rattle.analysis.specs.Analysis.{branch_of, range_on, alarms_on, carry_of, carry_both_of, value_of, alarms_of, decision_of, cond_alarms_of, narrow_of}
use Rattle.analysis.specs.Reads.{reads, cond_reads, Agree, Paired}
use Rattle.analysis.proofs.RowLaws.{joined, joined-low-is, joined-high-is}
use Rattle.std.specs.Int.{int_min, int_max}
use Rattle.std.specs.Prelude.{None, Option, Some}

-- ---- words
-- a word that is put in place is there afterwards, unless it is past the end; there every word is 0
abbrev Fits : List ℤ → ℕ → ℤ → Type 0
Fits l v a = length l ≤ v → a ≡ pos 0

set_agrees : (l m : List ℤ) (v w : ℕ) (a : ℤ) → Fits l v a → Fits m v a → word_of l w ≡ word_of m w → word_of (set l v a) w ≡ word_of (set m v a) w
set_agrees l m v w a f g h = grind (arith, common_steps)

rest-length : (f : ℤ → ℤ → ℤ) (m : List ℤ) → length (each_rest f m) ≡ length m
unfolding each_rest
rest-length f [] = refl
rest-length f (y ∷ m) = let h = rest-length f m in omega arith

each-length : (f : ℤ → ℤ → ℤ) (l m : List ℤ) → length (each f l m) ≡ max (length l) (length m)
unfolding each
each-length f [] m = omega (arith, rest-length f m)
each-length f (x ∷ l) m = omega (arith, each-length f l (drop 1 m), length-drop 1 m)

-- ---- intervals
abbrev low_end : Option Interval → ℤ
low_end None = pos 0
low_end (Some e) = e.low

abbrev high_end : Option Interval → ℤ
high_end None = pos 0
high_end (Some e) = e.high

abbrev is_some : Option Interval → Bool
is_some None = false
is_some (Some e) = true

-- the ends of an interval that isn't empty are known from it
ends-known : (a b c d : ℤ) → from_to a b ≡ from_to c d → le_z a b ≡ true → (a ≡ c) × (b ≡ d)
ends-known a b c d e h = by (le_z c d) (rw h at e)
  where
    by : (t : Bool) → span a b ≡ cond t (span c d) None → (a ≡ c) × (b ≡ d)
    by true q = (ap low_end q, ap high_end q)
    by false q = clash (ap is_some q)

-- a part of 0..0 is 0..0
part-of-zero : (s i : Option Interval) {a b : ℤ} → s ≡ span (pos 0) (pos 0) → meet_of s i ≡ span a b → (a ≡ pos 0) × (b ≡ pos 0)
part-of-zero s i {a} {b} e h = (end a (first o), end b (last o))
  where
    o : Ordered (span a b)
    o = rw h at (meet-ordered s i)

    end : (z : ℤ) → Within a b z → z ≡ pos 0
    end z p = let zero = within-holds (span a b) (span (pos 0) (pos 0)) (rw (h, e) at (meet-within-left s i)) z p in ≤-antisym zero.high zero.low

-- ---- rows that agree where P says so, through narrowing
abbrev some_at : Row → ℕ → Bool
some_at r v = le_z (word_of r.lows v) (word_of r.highs v)

abbrev SameEnds : Row → Row → ℕ → Type 0
SameEnds r s v = (word_of r.lows v ≡ word_of s.lows v) × (word_of r.highs v ≡ word_of s.highs v)

range_same : (r s : Row) (v : ℕ) → SameEnds r s v → range_of r v ≡ range_of s v
range_same r s v e = rw (e.0, e.1)

range_none : (r : Row) (v : ℕ) → some_at r v ≡ false → range_of r v ≡ None
range_none r v e = rw e

same-via : (r s t : Row) (v : ℕ) → SameEnds r s v → SameEnds s t v → SameEnds r t v
same-via r s t v e f = (e.0 ∙ f.0, e.1 ∙ f.1)

module _ (P : ℕ → Type 0) (R S : Row) (agree : (v : ℕ) → P v → range_of R v ≡ range_of S v) where
  -- r and s were made from R and S: where R has an interval, their ends are the same; an empty one was never touched, for no comparison of it leaves a
  -- row, and no join makes it longer
  pub record Alike (r s : Row) : Type 0 where
    pub left : Paired r
    pub right : Paired s
    pub full : (v : ℕ) → P v → some_at R v ≡ true → SameEnds r s v
    pub empty : (v : ℕ) → P v → some_at R v ≡ false → SameEnds r R v × SameEnds s S v

  pub at_first : Paired R → Paired S → Alike R S
  at_first p q = record { left = p; right = q; full = λ v h e. ends-known _ _ _ _ (agree v h) e; empty = λ v h e. ((refl, refl), (refl, refl)) }

  abbrev pub MaybeAlike : Option Row → Option Row → Type 0
  MaybeAlike None None = Unit {0}
  MaybeAlike None (Some s) = ⊥
  MaybeAlike (Some r) None = ⊥
  MaybeAlike (Some r) (Some s) = Alike r s

  module _ {r s : Row} (h : Alike r s) (v : ℕ) (p : P v) where
    both-empty : some_at R v ≡ false → (range_of r v ≡ None) × (range_of s v ≡ None)
    both-empty e =
        let ends = h.empty v p e in (
          range_same r R v ends.0 ∙ range_none R v e,
          range_same s S v ends.1 ∙ sym (agree v p) ∙ range_none R v e,
        )

    range-alike : range_of r v ≡ range_of s v
    range-alike = by (some_at R v) refl
      where
        by : (t : Bool) → some_at R v ≡ t → range_of r v ≡ range_of s v
        by true e = range_same r s v (h.full v p e)
        by false e = let ends = both-empty e in ends.0 ∙ sym ends.1

    -- where a part of the interval is left, it wasn't empty
    was-full : (i : Option Interval) {a b : ℤ} → meet_of (range_of s v) i ≡ span a b → some_at R v ≡ true
    unfolding meet_of on_ends
    was-full i {a} {b} m = by (some_at R v) refl
      where
        by : (t : Bool) → some_at R v ≡ t → some_at R v ≡ true
        by true e = e
        by false e = clash (sym (ap is_some (rw (both-empty e).1 at m)))

  -- the ends that are put in a row fit, for past its end stands 0..0
  module _ (r : Row) (v : ℕ) (i : Option Interval) {a b : ℤ} (q : Paired r) (m : meet_of (range_of r v) i ≡ span a b) where
    past : length r.lows ≤ v → (a ≡ pos 0) × (b ≡ pos 0)
    past l = part-of-zero (range_of r v) i (rw (get_or-eq_default r.lows (pos 0) {n = v} l, get_or-eq_default r.highs (pos 0) {n = v} (omega (arith, q, l)))) m

    low_fits : Fits r.lows v a
    low_fits l = (past l).0

    high_fits : Fits r.highs v b
    high_fits l = (past (omega (arith, q, l))).1

  put-apart : (l : List ℤ) (v w : ℕ) (a : ℤ) {x : ℤ} → some_at R v ≡ true → some_at R w ≡ false → word_of l w ≡ x → word_of (set l v a) w ≡ x
  put-apart l v w a e f h = get_or-set_other l v w a (pos 0) (λ j. clash (sym (ap (some_at R) j ∙ e) ∙ f)) ∙ h

  meet_at-alike : (r s : Row) (v : ℕ) (i : Option Interval) → P v → Alike r s → MaybeAlike (meet_at_of r v i) (meet_at_of s v i)
  unfolding meet_at_of put_of
  meet_at-alike r s v i p h = rw (range-alike h v p) (by (meet_of (range_of s v) i) refl)
    where
      by : (m : Option Interval) → meet_of (range_of s v) i ≡ m → MaybeAlike (put_of r v m) (put_of s v m)
      by None e = tt
      by (Some d) e =
          let e' : meet_of (range_of r v) i ≡ span d.low d.high = rw (range-alike h v p) e in
          let full = was-full h v p i e in
          record {
            left = length-set r.lows v d.low ∙ h.left ∙ sym (length-set r.highs v d.high);
            right = length-set s.lows v d.low ∙ h.right ∙ sym (length-set s.highs v d.high);
            full = λ w q t. (
              set_agrees r.lows s.lows v w d.low (low_fits r v i h.left e') (low_fits s v i h.right e) (h.full w q t).0,
              set_agrees r.highs s.highs v w d.high (high_fits r v i h.left e') (high_fits s v i h.right e) (h.full w q t).1,
            );
            empty = λ w q t.
                let ends = h.empty w q t in (
                  (put-apart r.lows v w d.low full t ends.0.0, put-apart r.highs v w d.high full t ends.0.1),
                  (put-apart s.lows v w d.low full t ends.1.0, put-apart s.highs v w d.high full t ends.1.1),
                );
          }

  then-alike : (m n : Option Row) (f g : Row → Option Row) → MaybeAlike m n → ((r s : Row) → Alike r s → MaybeAlike (f r) (g s)) → MaybeAlike (then_row m f) (then_row n g)
  unfolding then_row
  then-alike None None f g h k = tt
  then-alike None (Some s) f g h k = absurd h
  then-alike (Some r) None f g h k = absurd h
  then-alike (Some r) (Some s) f g h k = k r s h

  joined-ends : (r r' s s' : Row) (v : ℕ) → SameEnds r s v → SameEnds r' s' v → SameEnds (joined r r') (joined s s') v
  joined-ends r r' s s' v e f = (
    joined-low-is r r' v ∙ ap₂ int_min e.0 f.0 ∙ sym (joined-low-is s s' v),
    joined-high-is r r' v ∙ ap₂ int_max e.1 f.1 ∙ sym (joined-high-is s s' v),
  )

  joined-itself : (r : Row) (v : ℕ) → SameEnds (joined r r) r v
  joined-itself r v = (joined-low-is r r v ∙ min-is (≤ℤ_refl _), joined-high-is r r v ∙ max-is (≤ℤ_refl _))

  joined-alike : (r r' s s' : Row) → Alike r s → Alike r' s' → Alike (joined r r') (joined s s')
  joined-alike r r' s s' h k = record {
    left = omega (arith, each-length int_min r.lows r'.lows, each-length int_max r.highs r'.highs, h.left, k.left);
    right = omega (arith, each-length int_min s.lows s'.lows, each-length int_max s.highs s'.highs, h.right, k.right);
    full = λ v p e. joined-ends r r' s s' v (h.full v p e) (k.full v p e);
    empty = λ v p e.
        let a = h.empty v p e in
        let b = k.empty v p e in (
          same-via (joined r r') (joined R R) R v (joined-ends r r' R R v a.0 b.0) (joined-itself R v),
          same-via (joined s s') (joined S S) S v (joined-ends s s' S S v a.1 b.1) (joined-itself S v),
        );
  }

  join_rows-alike : (l m n o : Option Row) → MaybeAlike l n → MaybeAlike m o → MaybeAlike (join_rows_of l m) (join_rows_of n o)
  unfolding join_rows_of
  join_rows-alike None m None o h k = k
  join_rows-alike None m (Some s) o h k = absurd h
  join_rows-alike (Some r) m None o h k = absurd h
  join_rows-alike (Some r) None (Some s) None h k = h
  join_rows-alike (Some r) None (Some s) (Some o) h k = absurd k
  join_rows-alike (Some r) (Some m) (Some s) None h k = absurd k
  join_rows-alike (Some r) (Some m) (Some s) (Some o) h k = joined-alike r m s o h k

  row_if-alike : (b : Bool) (m n : Option Row) → MaybeAlike m n → MaybeAlike (row_if b m) (row_if b n)
  unfolding row_if
  row_if-alike true m n h = h
  row_if-alike false m n h = tt

  -- what is read on alike rows is the same
  on_alike : {A : Type 0} (on : Option Row → (Row → A) → A) (e : (r : Row) (f : Row → A) → on (Some r) f ≡ f r) (m n : Option Row) (f : Row → A) → MaybeAlike m n
      → ((r s : Row) → Alike r s → f r ≡ f s) → on m f ≡ on n f
  on_alike on e None None f h k = refl
  on_alike on e None (Some s) f h k = absurd h
  on_alike on e (Some r) None f h k = absurd h
  on_alike on e (Some r) (Some s) f h k = e r f ∙ k r s h ∙ sym (e s f)

  branch-alike : {A : Type 0} (on : Option Row → (Row → A) → A) (e : (r : Row) (f : Row → A) → on (Some r) f ≡ f r) (w : Bool) (f : Row → A) {d d' : Decision} (m n : Option Row)
      → d ≡ d' → MaybeAlike m n → ((r s : Row) → Alike r s → f r ≡ f s) → on (branch_of d w m) f ≡ on (branch_of d' w n) f
  branch-alike on e w f {d' = d'} m n i h k = rw i (on_alike on e _ _ f (row_if-alike (allows d' w) m n h) k)

  range-on : (r : Row) (f : Row → Option Interval) → range_on (Some r) f ≡ f r
  unfolding range_on
  range-on r f = refl

  alarms-on : (r : Row) (f : Row → List Alarm) → alarms_on (Some r) f ≡ f r
  unfolding alarms_on
  alarms-on r f = refl

  -- ---- trees: P holds of every variable that is read
  abbrev Reads : (ℕ → Bool) → Type 0
  Reads read = (v : ℕ) → read v ≡ true → P v

  carry-alike : (x : Arith) (i : Option Interval) (r s : Row) → Reads (reads x) → Alike r s → MaybeAlike (carry_of x i r) (carry_of x i s)
  unfolding carry_of reads
  carry-alike x None r s p h = tt
  carry-alike (constant n z) (Some e) r s p h = h
  carry-alike (input n l u) (Some e) r s p h = h
  carry-alike (variable n v) (Some e) r s p h = meet_at-alike r s v (span e.low e.high) (p v (eq-eqb v v refl)) h
  carry-alike (negation n x) (Some e) r s p h = h
  carry-alike (binary n op x y) (Some e) r s p h = h
  carry-alike (choice n c x y) (Some e) r s p h = h
  carry-alike (no_arith n) (Some e) r s p h = h

  compare_alike : (x y : Arith) (k : Comparison) (w : Bool) {i i' j j' : Option Interval} (r s : Row) → i ≡ i' → j ≡ j' → Reads (reads x) → Reads (reads y) → Alike r s
      → MaybeAlike (carry_both_of x y (cuts_of k w i j) r) (carry_both_of x y (cuts_of k w i' j') s)
  unfolding carry_both_of
  compare_alike x y k w {i' = i'} {j' = j'} r s e f p q h =
      rw (e, f) (then-alike _ _ _ _ (carry-alike x (cuts_of k w i' j').left r s p h) (λ t u l. carry-alike y (cuts_of k w i' j').right t u q l))

  module _ (f g : ℕ → Bool) where
    left-read : Reads (λ v. f v || g v) → Reads f
    left-read p v e = p v (or_left (g v) e)

    right-read : Reads (λ v. f v || g v) → Reads g
    right-read p v e = p v (or_right (f v) e)

  mutual
    unfolding value_of reads

    value-alike : (x : Arith) (r s : Row) → Reads (reads x) → Alike r s → value_of x r ≡ value_of x s
    value-alike (constant n z) r s p h = refl
    value-alike (input n a b) r s p h = refl
    value-alike (variable n v) r s p h = range-alike h v (p v (eq-eqb v v refl))
    value-alike (negation n x) r s p h = ap (λ (i : Option Interval). (negate_of i).range) (value-alike x r s p h)
    value-alike (binary n op x y) r s p h =
        ap₂ (λ i j. (operate_of op i j).range) (value-alike x r s (left-read (reads x) (reads y) p) h) (value-alike y r s (right-read (reads x) (reads y) p) h)
    value-alike (choice n c x y) r s p h =
        let in-cond = left-read (cond_reads c) (λ v. reads x v || reads y v) p in
        let in_both = right-read (cond_reads c) (λ v. reads x v || reads y v) p in
        let d = decision-alike c r s in-cond h in
        ap₂ join_of
        (branch-alike range_on range-on true (λ t. value_of x t) _ _ d (narrow-alike c true r s in-cond h) (λ t u k. value-alike x t u (left-read (reads x) (reads y) in_both) k))
        (branch-alike range_on range-on false (λ t. value_of y t) _ _ d (narrow-alike c false r s in-cond h) (λ t u k. value-alike y t u (right-read (reads x) (reads y) in_both) k))
    value-alike (no_arith n) r s p h = refl

    decision-alike : (c : Cond) (r s : Row) → Reads (cond_reads c) → Alike r s → decision_of c r ≡ decision_of c s
    decision-alike (compare n k x y) r s p h =
        ap₂ (compare_of k) (value-alike x r s (left-read (reads x) (reads y) p) h) (value-alike y r s (right-read (reads x) (reads y) p) h)
    decision-alike (both n c d) r s p h =
        ap₂ both_of (decision-alike c r s (left-read (cond_reads c) (cond_reads d) p) h) (decision-alike d r s (right-read (cond_reads c) (cond_reads d) p) h)
    decision-alike (either n c d) r s p h =
        ap₂ either_of (decision-alike c r s (left-read (cond_reads c) (cond_reads d) p) h) (decision-alike d r s (right-read (cond_reads c) (cond_reads d) p) h)
    decision-alike (is_not n c) r s p h = ap opposite_of (decision-alike c r s p h)
    decision-alike (no_cond n) r s p h = refl

    narrow-alike : (c : Cond) (w : Bool) (r s : Row) → Reads (cond_reads c) → Alike r s → MaybeAlike (narrow_of c w r) (narrow_of c w s)
    narrow-alike (compare n k x y) w r s p h =
        let in_left = left-read (reads x) (reads y) p in
        let in_right = right-read (reads x) (reads y) p in
        compare_alike x y k w r s (value-alike x r s in_left h) (value-alike y r s in_right h) in_left in_right h
    narrow-alike (both n c d) true r s p h =
        then-alike _ _ _ _ (narrow-alike c true r s (left-read (cond_reads c) (cond_reads d) p) h) (λ t u j. narrow-alike d true t u (right-read (cond_reads c) (cond_reads d) p) j)
    narrow-alike (both n c d) false r s p h =
        join_rows-alike _ _ _ _ (narrow-alike c false r s (left-read (cond_reads c) (cond_reads d) p) h) (narrow-alike d false r s (right-read (cond_reads c) (cond_reads d) p) h)
    narrow-alike (either n c d) true r s p h =
        join_rows-alike _ _ _ _ (narrow-alike c true r s (left-read (cond_reads c) (cond_reads d) p) h) (narrow-alike d true r s (right-read (cond_reads c) (cond_reads d) p) h)
    narrow-alike (either n c d) false r s p h =
        then-alike _ _ _ _ (narrow-alike c false r s (left-read (cond_reads c) (cond_reads d) p) h) (λ t u j. narrow-alike d false t u (right-read (cond_reads c) (cond_reads d) p) j)
    narrow-alike (is_not n c) true r s p h = narrow-alike c false r s p h
    narrow-alike (is_not n c) false r s p h = narrow-alike c true r s p h
    narrow-alike (no_cond n) true r s p h = tt
    narrow-alike (no_cond n) false r s p h = h

  mutual
    unfolding value_of reads

    alarms-alike : (x : Arith) (r s : Row) → Reads (reads x) → Alike r s → alarms_of x r ≡ alarms_of x s
    alarms-alike (constant n z) r s p h = refl
    alarms-alike (input n a b) r s p h = refl
    alarms-alike (variable n v) r s p h = refl
    alarms-alike (negation n x) r s p h = ap₂ (λ a i. a ++ told_of n (negate_of i)) (alarms-alike x r s p h) (value-alike x r s p h)
    alarms-alike (binary n op x y) r s p h =
        let in_left = left-read (reads x) (reads y) p in
        let in_right = right-read (reads x) (reads y) p in
        ap₂ ◌++◌ (alarms-alike x r s in_left h)
        (ap₂ ◌++◌ (alarms-alike y r s in_right h) (ap₂ (λ i j. told_of n (operate_of op i j)) (value-alike x r s in_left h) (value-alike y r s in_right h)))
    alarms-alike (choice n c x y) r s p h =
        let in-cond = left-read (cond_reads c) (λ v. reads x v || reads y v) p in
        let in_both = right-read (cond_reads c) (λ v. reads x v || reads y v) p in
        let d = decision-alike c r s in-cond h in
        ap₂ ◌++◌ (cond_alarms-alike c r s in-cond h)
        (ap₂ ◌++◌
        (branch-alike alarms_on alarms-on true (λ t. alarms_of x t) _ _ d (narrow-alike c true r s in-cond h) (λ t u k. alarms-alike x t u (left-read (reads x) (reads y) in_both) k))
        (branch-alike alarms_on alarms-on false (λ t. alarms_of y t) _ _ d (narrow-alike c false r s in-cond h) (λ t u k. alarms-alike y t u (right-read (reads x) (reads y) in_both) k)))
    alarms-alike (no_arith n) r s p h = refl

    cond_alarms-alike : (c : Cond) (r s : Row) → Reads (cond_reads c) → Alike r s → cond_alarms_of c r ≡ cond_alarms_of c s
    cond_alarms-alike (compare n k x y) r s p h =
        ap₂ ◌++◌ (alarms-alike x r s (left-read (reads x) (reads y) p) h) (alarms-alike y r s (right-read (reads x) (reads y) p) h)
    cond_alarms-alike (both n c d) r s p h =
        ap₂ ◌++◌ (cond_alarms-alike c r s (left-read (cond_reads c) (cond_reads d) p) h) (cond_alarms-alike d r s (right-read (cond_reads c) (cond_reads d) p) h)
    cond_alarms-alike (either n c d) r s p h =
        ap₂ ◌++◌ (cond_alarms-alike c r s (left-read (cond_reads c) (cond_reads d) p) h) (cond_alarms-alike d r s (right-read (cond_reads c) (cond_reads d) p) h)
    cond_alarms-alike (is_not n c) r s p h = cond_alarms-alike c r s p h
    cond_alarms-alike (no_cond n) r s p h = refl

-- ---- the laws
module _ (r s : Row) (p : Paired r) (q : Paired s) where
  pub value-agrees : (x : Arith) → Agree (reads x) r s → value_of x r ≡ value_of x s
  value-agrees x h = value-alike _ r s h.at x r s (λ v e. e) (at_first _ r s h.at p q)

  pub alarms-agree : (x : Arith) → Agree (reads x) r s → alarms_of x r ≡ alarms_of x s
  alarms-agree x h = alarms-alike _ r s h.at x r s (λ v e. e) (at_first _ r s h.at p q)

  pub decision-agrees : (c : Cond) → Agree (cond_reads c) r s → decision_of c r ≡ decision_of c s
  decision-agrees c h = decision-alike _ r s h.at c r s (λ v e. e) (at_first _ r s h.at p q)

  pub cond_alarms-agree : (c : Cond) → Agree (cond_reads c) r s → cond_alarms_of c r ≡ cond_alarms_of c s
  cond_alarms-agree c h = cond_alarms-alike _ r s h.at c r s (λ v e. e) (at_first _ r s h.at p q)
