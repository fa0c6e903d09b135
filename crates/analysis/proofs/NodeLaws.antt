-- The steps of the induction over trees, one for each kind of node: what the analysis says of the operands is so, hence what it says of the node.
-- The row stands inside what is said, `(r : Row) → Inside vs r → ..`, and not around it: a right side of `both` is then used on the row that the
-- left side narrowed, though both were evaluated once.
-- Assumes nothing.
use Prim.Native.Nat.{ℕ}
use mathlib.Core.Path.{◌≡◌, refl}
use mathlib.Core.Bool.{Bool, true, false, not, ◌&&◌, ◌||◌}
use mathlib.Core.List.{List}
use lib.IntN.{ℤ, pos, neg_ℤ}
use lib.Signed.{le_z, ≤ℤ_refl}
use Rattle.interval.specs.Interval.{Within, Holds, span}
use Rattle.interval.specs.Arithmetic.{exact, by_zero, negate_of, operate_of}
use Rattle.interval.specs.Compare.{test, allows}
use Rattle.interval.specs.declared.Interval.{Interval}
use Rattle.interval.specs.declared.Operation.{Operation}
use Rattle.interval.specs.declared.Comparison.{Comparison}
use Rattle.interval.proofs.IntegerLaws.{max-left, max-right}
use Rattle.interval.proofs.IntervalLaws.{first, test-within, widen, from_to-holds}
use Rattle.interval.proofs.LatticeLaws.{join-contains-left, join-contains-right}
use Rattle.interval.proofs.ArithmeticLaws.{negate-tells, operate-tells, operate-zero}
use Rattle.interval.proofs.CompareLaws.{compare-allows, both-allows, either-allows, opposite-allows}
use Rattle.interval.proofs.NarrowLaws.{cuts-keep}
use Rattle.words.specs.Words.{word_of}
use Rattle.table.specs.Tree.{Arith, constant, input, variable, negation, binary, choice, no_arith, Cond, compare, both, either, is_not, no_cond}
use Rattle.table.specs.Meaning.{fit, perform_by, perform, word_in, input_by, branch, Evaluation}
use Rattle.analysis.specs.declared.Alarm.{Alarm}
use Rattle.analysis.specs.Rows.{Row, Inside, Kept}
use Rattle.analysis.specs.Alarms.{told_of}
use Rattle.analysis.specs.Analysis.{branch_of, range_on, alarms_on, carry_of, carry_both_of, value_of, alarms_of, decision_of, cond_alarms_of, narrow_of}
use Rattle.analysis.proofs.RowLaws.{kept-some, meet_at-keeps, then_keeps, join_rows-keeps-left, join_rows-keeps-right, branch_keeps}
use Rattle.analysis.proofs.AlarmLaws.{Listed, listed-left, listed-right, overflow-listed, zero-listed}
use Rattle.analysis.proofs.OutcomeLaws.{EndsWith, ends-mono, fit-ends}
use Rattle.std.specs.Int.{int_max}
use Rattle.std.specs.Prelude.{None, Option, Some}

module _ (vs : List ℤ) where
  -- ---- what is said of the value z of x, of the truth b of c, and of an error
  -- a variable's number is its value: this is what its cut carries back to the row
  abbrev pub Reads : Arith → ℤ → Type 0
  Reads (constant n c) z = Unit {0}
  Reads (input n a b) z = Unit {0}
  Reads (variable n v) z = z ≡ word_of vs v
  Reads (negation n x) z = Unit {0}
  Reads (binary n op x y) z = Unit {0}
  Reads (choice n c x y) z = Unit {0}
  Reads (no_arith n) z = Unit {0}

  pub record Valued (x : Arith) (z : ℤ) : Type 0 where
    pub contains : (r : Row) → Inside vs r → Holds (value_of x r) z
    pub reads : Reads x z

  pub record Decided (c : Cond) (b : Bool) : Type 0 where
    pub allowed : (r : Row) → Inside vs r → allows (decision_of c r) b ≡ true
    pub keeps : (r : Row) → Inside vs r → Kept vs (narrow_of c b r)

  abbrev pub Told : Arith → ℕ → ℕ → Type 0
  Told x n k = (r : Row) → Inside vs r → Listed n k (alarms_of x r)

  abbrev pub CondTold : Cond → ℕ → ℕ → Type 0
  CondTold c n k = (r : Row) → Inside vs r → Listed n k (cond_alarms_of c r)

  abbrev pub Outcome : Arith → Evaluation ℤ → Type 0
  Outcome x e = EndsWith (Valued x) (Told x) e

  abbrev pub CondOutcome : Cond → Evaluation Bool → Type 0
  CondOutcome c e = EndsWith (Decided c) (CondTold c) e

  -- ---- leaves
  pub constant-valued : (n : ℕ) (z : ℤ) → Valued (constant n z) z
  unfolding value_of
  constant-valued n z = record { contains = λ r i. first (≤ℤ_refl z); reads = tt }

  pub variable-valued : (n v : ℕ) → Valued (variable n v) (word_of vs v)
  unfolding value_of
  variable-valued n v = record { contains = λ r i. from_to-holds (i.at v); reads = refl }

  pub no_arith-valued : (n : ℕ) → Valued (no_arith n) (pos 0)
  unfolding value_of
  no_arith-valued n = record { contains = λ r i. first (≤ℤ_refl (pos 0)); reads = tt }

  -- a word that isn't in the input's interval counts as its low end
  word_in-within : (a b w : ℤ) (t : Bool) → le_z a w && le_z w b ≡ t → Within a (int_max a b) (word_in t a w)
  unfolding word_in
  word_in-within a b w true e = widen (≤ℤ_refl a) (max-right a b) (test-within a b w e)
  word_in-within a b w false e = first (max-left a b)

  pub input-outcome : (n : ℕ) (a b : ℤ) (t : Bool) (w : ℤ) (p : ℕ) → Outcome (input n a b) (input_by t a b w p)
  unfolding input_by value_of
  input-outcome n a b true w p = record { contains = λ r i. word_in-within a b w (le_z a w && le_z w b) refl; reads = tt }
  input-outcome n a b false w p = record { contains = λ r i. first (max-left a b); reads = tt }

  -- ---- operations
  pub negation-outcome : (n : ℕ) (x : Arith) (a : ℤ) (p : ℕ) → Valued x a → Outcome (negation n x) (fit n (neg_ℤ a) p)
  unfolding value_of
  negation-outcome n x a p h =
      fit-ends (Valued (negation n x)) (Told (negation n x)) n (neg_ℤ a) p
      (λ w. record { contains = λ r i. (negate-tells (value_of x r) a (h.contains r i)).contains w; reads = tt })
      (λ w r i. listed-right n 1 (alarms_of x r) _ (overflow-listed n (negate_of (value_of x r)) ((negate-tells (value_of x r) a (h.contains r i)).overflow w)))

  module _ (n : ℕ) (op : Operation) (x y : Arith) where
    -- an alarm of the operation itself is one of the node
    own-listed : (r : Row) (k : ℕ) → Listed n k (told_of n (operate_of op (value_of x r) (value_of y r))) → Listed n k (alarms_of (binary n op x y) r)
    unfolding value_of
    own-listed r k h = listed-right n k (alarms_of x r) _ (listed-right n k (alarms_of y r) _ h)

    pub binary-outcome : (a b : ℤ) (p : ℕ) → Valued x a → Valued y b → Outcome (binary n op x y) (perform n op a b p)
    unfolding perform perform_by value_of
    binary-outcome a b p ha hb = by (by_zero op b) refl
      where
        by : (t : Bool) → by_zero op b ≡ t → Outcome (binary n op x y) (perform_by t n (exact op a b) p)
        by true e = λ r i. own-listed r 2 (zero-listed n _ (operate-zero op (value_of x r) (value_of y r) a b (ha.contains r i) (hb.contains r i) e))
        by false e =
            fit-ends (Valued (binary n op x y)) (Told (binary n op x y)) n (exact op a b) p
            (λ w. record { contains = λ r i. (operate-tells op (value_of x r) (value_of y r) a b (ha.contains r i) (hb.contains r i) e).contains w; reads = tt })
            (λ w r i. own-listed r 1 (overflow-listed n _ ((operate-tells op (value_of x r) (value_of y r) a b (ha.contains r i) (hb.contains r i) e).overflow w)))

  -- ---- a choice: the branch that is taken is one that the decision allows, and the values lie within its row
  module _ (n : ℕ) (c : Cond) (x y : Arith) where
    abbrev row_for : Bool → Row → Option Row
    row_for w r = branch_of (decision_of c r) w (narrow_of c w r)

    row_for-keeps : (w : Bool) → Decided c w → (r : Row) → Inside vs r → Kept vs (row_for w r)
    row_for-keeps w h r i = branch_keeps vs (decision_of c r) w (narrow_of c w r) (h.allowed r i) (h.keeps r i)

    abbrev range_for : Bool → Arith → Row → Option Interval
    range_for w b r = range_on (row_for w r) (λ s. value_of b s)

    abbrev alarms_for : Bool → Arith → Row → List Alarm
    alarms_for w b r = alarms_on (row_for w r) (λ s. alarms_of b s)

    -- of the branch b, on its row
    taken : (w : Bool) (b : Arith) (e : Evaluation ℤ) → Decided c w → Outcome b e → EndsWith (λ z. (r : Row) → Inside vs r → Holds (range_for w b r) z) (λ m k. (r : Row) → Inside vs r → Listed m k (alarms_for w b r)) e
    unfolding range_on alarms_on
    taken w b e h o =
        ends-mono (Valued b) _ (Told b) _ e o
        (λ z u r i. kept-some vs (λ s. Holds (range_on s (λ t. value_of b t)) z) (row_for w r) (row_for-keeps w h r i) u.contains)
        (λ m k u r i. kept-some vs (λ s. Listed m k (alarms_on s (λ t. alarms_of b t))) (row_for w r) (row_for-keeps w h r i) u)

    pub choice-outcome : (t : Bool) (p : ℕ) (f g : ℕ → Evaluation ℤ) → Decided c t → Outcome x (f p) → Outcome y (g p) → Outcome (choice n c x y) (branch t f g p)
    unfolding branch value_of
    choice-outcome true p f g h hx hy =
        ends-mono _ (Valued (choice n c x y)) _ (Told (choice n c x y)) (f p) (taken true x (f p) h hx)
        (λ z u. record { contains = λ r i. join-contains-left _ _ z (u r i); reads = tt })
        (λ m k u r i. listed-right m k (cond_alarms_of c r) _ (listed-left m k (alarms_for true x r) (alarms_for false y r) (u r i)))
    choice-outcome false p f g h hx hy =
        ends-mono _ (Valued (choice n c x y)) _ (Told (choice n c x y)) (g p) (taken false y (g p) h hy)
        (λ z u. record { contains = λ r i. join-contains-right _ _ z (u r i); reads = tt })
        (λ m k u r i. listed-right m k (cond_alarms_of c r) _ (listed-right m k (alarms_for true x r) (alarms_for false y r) (u r i)))

  -- ---- a comparison
  carry-keeps : (x : Arith) (z : ℤ) → Reads x z → (s : Option Interval) (r : Row) → Inside vs r → Holds s z → Kept vs (carry_of x s r)
  unfolding carry_of
  carry-keeps x z q None r i h = absurd h
  carry-keeps (constant n c) z q (Some e) r i h = i
  carry-keeps (input n l u) z q (Some e) r i h = i
  carry-keeps (variable n v) z q (Some e) r i h = meet_at-keeps vs r v (span e.low e.high) i (rw q at h)
  carry-keeps (negation n x) z q (Some e) r i h = i
  carry-keeps (binary n op x y) z q (Some e) r i h = i
  carry-keeps (choice n c x y) z q (Some e) r i h = i
  carry-keeps (no_arith n) z q (Some e) r i h = i

  pub compare-decided : (n : ℕ) (k : Comparison) (x y : Arith) (a b : ℤ) → Valued x a → Valued y b → Decided (compare n k x y) (test k a b)
  unfolding decision_of carry_both_of
  compare-decided n k x y a b ha hb = record {
    allowed = λ r i. compare-allows k (value_of x r) (value_of y r) a b (ha.contains r i) (hb.contains r i);
    keeps = λ r i.
        let u = cuts-keep k (value_of x r) (value_of y r) a b (ha.contains r i) (hb.contains r i) in
        then_keeps vs _ _ (carry-keeps x a ha.reads _ r i u.left) (λ t j. carry-keeps y b hb.reads _ t j u.right);
  }

  -- ---- conditions of conditions
  module _ (n : ℕ) (c d : Cond) where
    both-keeps : (t u : Bool) → Decided c t → Decided d u → (r : Row) → Inside vs r → Kept vs (narrow_of (both n c d) (t && u) r)
    unfolding narrow_of
    both-keeps true true h k r i = then_keeps vs _ _ (h.keeps r i) k.keeps
    both-keeps true false h k r i = join_rows-keeps-right vs (narrow_of c false r) (narrow_of d false r) (k.keeps r i)
    both-keeps false u h k r i = join_rows-keeps-left vs (narrow_of c false r) (narrow_of d false r) (h.keeps r i)

    pub both-decided : (t u : Bool) → Decided c t → Decided d u → Decided (both n c d) (t && u)
    unfolding decision_of
    both-decided t u h k = record { allowed = λ r i. both-allows (decision_of c r) (decision_of d r) t u (h.allowed r i) (k.allowed r i); keeps = both-keeps t u h k }

    either-keeps : (t u : Bool) → Decided c t → Decided d u → (r : Row) → Inside vs r → Kept vs (narrow_of (either n c d) (t || u) r)
    unfolding narrow_of
    either-keeps true u h k r i = join_rows-keeps-left vs (narrow_of c true r) (narrow_of d true r) (h.keeps r i)
    either-keeps false true h k r i = join_rows-keeps-right vs (narrow_of c true r) (narrow_of d true r) (k.keeps r i)
    either-keeps false false h k r i = then_keeps vs _ _ (h.keeps r i) k.keeps

    pub either-decided : (t u : Bool) → Decided c t → Decided d u → Decided (either n c d) (t || u)
    unfolding decision_of
    either-decided t u h k = record { allowed = λ r i. either-allows (decision_of c r) (decision_of d r) t u (h.allowed r i) (k.allowed r i); keeps = either-keeps t u h k }

  is_not-keeps : (n : ℕ) (c : Cond) (t : Bool) → Decided c t → (r : Row) → Inside vs r → Kept vs (narrow_of (is_not n c) (not t) r)
  unfolding narrow_of
  is_not-keeps n c true h r i = h.keeps r i
  is_not-keeps n c false h r i = h.keeps r i

  pub is_not-decided : (n : ℕ) (c : Cond) (t : Bool) → Decided c t → Decided (is_not n c) (not t)
  unfolding decision_of
  is_not-decided n c t h = record { allowed = λ r i. opposite-allows (decision_of c r) t (h.allowed r i); keeps = is_not-keeps n c t h }

  pub no_cond-decided : (n : ℕ) → Decided (no_cond n) false
  unfolding decision_of
  no_cond-decided n = record { allowed = λ r i. refl; keeps = λ r i. i }
