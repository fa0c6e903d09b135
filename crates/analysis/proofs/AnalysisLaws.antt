-- What the analysis says of a tree, by induction over arithmetic and conditions together: it is so of every evaluation, every alarm is of kind 1
-- or 2, and a narrowed row lies within the row it came from.
-- Assumes nothing.
use Prim.Native.Nat.{ℕ}
use mathlib.Core.Bool.{Bool, true, false, ◌&&◌, ◌||◌}
use mathlib.Core.List.{List, ◌++◌}
use lib.IntN.{ℤ}
use Rattle.interval.specs.declared.Interval.{Interval}
use Rattle.table.specs.Tree.{Arith, constant, input, variable, negation, binary, choice, no_arith, Cond, compare, both, either, is_not, no_cond}
use Rattle.table.specs.Meaning.{followed_by, result, truth, gives}
use Rattle.analysis.specs.Rows.{Row, Inside}
use Rattle.analysis.specs.Analysis.{carry_of, carry_both_of, value_of, alarms_of, cond_alarms_of, narrow_of}
use Rattle.analysis.specs.Laws.{Kinds}
use Rattle.analysis.proofs.RowLaws.{MaybeTighter, tighter-refl, meet_at-tighter, then-tighter, join_rows-tighter}
use Rattle.analysis.proofs.AlarmLaws.{Listed, listed-left, listed-right, empty-kinds, append-kinds, told-kinds, alarms_on-kinds}
use Rattle.analysis.proofs.OutcomeLaws.{EndsWith, followed}
use Rattle.analysis.proofs.NodeLaws.{Valued, Decided, Told, CondTold, Outcome, CondOutcome, constant-valued, variable-valued, no_arith-valued, input-outcome, negation-outcome, binary-outcome, choice-outcome, compare-decided, both-decided, either-decided, is_not-decided, no_cond-decided}
use Rattle.std.specs.Prelude.{None, Option, Some}
use Rattle.interval.specs.Interval.{span}

-- ---- evaluations
module _ (vs ws : List ℤ) where
  -- two conditions, left then right, whatever is made of their truths
  sides-outcome : (c d : Cond) (P : Bool → Type 0) (f : Bool → Bool → Bool) (p : ℕ) → CondOutcome vs c (truth c vs ws p) → ((q : ℕ) → CondOutcome vs d (truth d vs ws q)) → ((t u : Bool) → Decided vs c t → Decided vs d u → P (f t u)) → EndsWith P (λ m k. (r : Row) → Inside vs r → Listed m k (cond_alarms_of c r ++ cond_alarms_of d r)) (followed_by (truth c vs ws p) (λ t q. followed_by (truth d vs ws q) (λ u s. gives (f t u) s)))
  sides-outcome c d P f p hc hd g =
      followed (Decided vs c) _ (CondTold vs c) _ (truth c vs ws p) _ hc
      (λ t q kc.
      followed (Decided vs d) _ (CondTold vs d) _ (truth d vs ws q) _ (hd q)
      (λ u s kd. g t u kc kd)
      (λ m k h r i. listed-right m k (cond_alarms_of c r) _ (h r i)))
      (λ m k h r i. listed-left m k (cond_alarms_of c r) _ (h r i))

  mutual
    unfolding result value_of

    pub arith-outcome : (x : Arith) (p : ℕ) → Outcome vs x (result x vs ws p)
    arith-outcome (constant n z) p = constant-valued vs n z
    arith-outcome (input n a b) p = input-outcome vs n a b _ _ p
    arith-outcome (variable n v) p = variable-valued vs n v
    arith-outcome (negation n x) p =
        followed (Valued vs x) _ (Told vs x) _ (result x vs ws p) _ (arith-outcome x p)
        (λ a q h. negation-outcome vs n x a q h)
        (λ m k h r i. listed-left m k (alarms_of x r) _ (h r i))
    arith-outcome (binary n op x y) p =
        followed (Valued vs x) _ (Told vs x) _ (result x vs ws p) _ (arith-outcome x p)
        (λ a q ha.
        followed (Valued vs y) _ (Told vs y) _ (result y vs ws q) _ (arith-outcome y q)
        (λ b s hb. binary-outcome vs n op x y a b s ha hb)
        (λ m k h r i. listed-right m k (alarms_of x r) _ (listed-left m k (alarms_of y r) _ (h r i))))
        (λ m k h r i. listed-left m k (alarms_of x r) _ (h r i))
    arith-outcome (choice n c x y) p =
        followed (Decided vs c) _ (CondTold vs c) _ (truth c vs ws p) _ (cond-outcome c p)
        (λ t q h. choice-outcome vs n c x y t q (λ s. result x vs ws s) (λ s. result y vs ws s) h (arith-outcome x q) (arith-outcome y q))
        (λ m k h r i. listed-left m k (cond_alarms_of c r) _ (h r i))
    arith-outcome (no_arith n) p = no_arith-valued vs n

    pub cond-outcome : (c : Cond) (p : ℕ) → CondOutcome vs c (truth c vs ws p)
    cond-outcome (compare n k x y) p =
        followed (Valued vs x) _ (Told vs x) _ (result x vs ws p) _ (arith-outcome x p)
        (λ a q ha.
        followed (Valued vs y) _ (Told vs y) _ (result y vs ws q) _ (arith-outcome y q)
        (λ b s hb. compare-decided vs n k x y a b ha hb)
        (λ m e h r i. listed-right m e (alarms_of x r) _ (h r i)))
        (λ m e h r i. listed-left m e (alarms_of x r) _ (h r i))
    cond-outcome (both n c d) p = sides-outcome c d (Decided vs (both n c d)) ◌&&◌ p (cond-outcome c p) (λ q. cond-outcome d q) (both-decided vs n c d)
    cond-outcome (either n c d) p = sides-outcome c d (Decided vs (either n c d)) ◌||◌ p (cond-outcome c p) (λ q. cond-outcome d q) (either-decided vs n c d)
    cond-outcome (is_not n c) p =
        followed (Decided vs c) _ (CondTold vs c) _ (truth c vs ws p) _ (cond-outcome c p)
        (λ t q h. is_not-decided vs n c t h)
        (λ m k h r i. h r i)
    cond-outcome (no_cond n) p = no_cond-decided vs n

-- ---- the kinds of alarms
mutual
  unfolding value_of

  pub alarms-kinds : (x : Arith) (r : Row) → Kinds (alarms_of x r)
  alarms-kinds (constant n z) r = empty-kinds
  alarms-kinds (input n a b) r = empty-kinds
  alarms-kinds (variable n v) r = empty-kinds
  alarms-kinds (negation n x) r = append-kinds _ _ (alarms-kinds x r) (told-kinds n _)
  alarms-kinds (binary n op x y) r = append-kinds _ _ (alarms-kinds x r) (append-kinds _ _ (alarms-kinds y r) (told-kinds n _))
  alarms-kinds (choice n c x y) r =
      append-kinds _ _ (cond_alarms-kinds c r)
      (append-kinds _ _ (alarms_on-kinds _ (λ s. alarms_of x s) (λ s. alarms-kinds x s)) (alarms_on-kinds _ (λ s. alarms_of y s) (λ s. alarms-kinds y s)))
  alarms-kinds (no_arith n) r = empty-kinds

  pub cond_alarms-kinds : (c : Cond) (r : Row) → Kinds (cond_alarms_of c r)
  cond_alarms-kinds (compare n k x y) r = append-kinds _ _ (alarms-kinds x r) (alarms-kinds y r)
  cond_alarms-kinds (both n c d) r = append-kinds _ _ (cond_alarms-kinds c r) (cond_alarms-kinds d r)
  cond_alarms-kinds (either n c d) r = append-kinds _ _ (cond_alarms-kinds c r) (cond_alarms-kinds d r)
  cond_alarms-kinds (is_not n c) r = cond_alarms-kinds c r
  cond_alarms-kinds (no_cond n) r = empty-kinds

-- ---- narrowed rows
carry-tighter : (x : Arith) (s : Option Interval) (r : Row) → MaybeTighter (carry_of x s r) r
unfolding carry_of
carry-tighter x None r = tt
carry-tighter (constant n z) (Some e) r = tighter-refl r
carry-tighter (input n l h) (Some e) r = tighter-refl r
carry-tighter (variable n v) (Some e) r = meet_at-tighter r v (span e.low e.high)
carry-tighter (negation n x) (Some e) r = tighter-refl r
carry-tighter (binary n op x y) (Some e) r = tighter-refl r
carry-tighter (choice n c x y) (Some e) r = tighter-refl r
carry-tighter (no_arith n) (Some e) r = tighter-refl r

pub narrow-tighter : (c : Cond) (w : Bool) (r : Row) → MaybeTighter (narrow_of c w r) r
unfolding narrow_of carry_both_of
narrow-tighter (compare n k x y) w r = then-tighter _ _ r (carry-tighter x _ r) (λ s. carry-tighter y _ s)
narrow-tighter (both n c d) true r = then-tighter _ _ r (narrow-tighter c true r) (λ s. narrow-tighter d true s)
narrow-tighter (both n c d) false r = join_rows-tighter _ _ r (narrow-tighter c false r) (narrow-tighter d false r)
narrow-tighter (either n c d) true r = join_rows-tighter _ _ r (narrow-tighter c true r) (narrow-tighter d true r)
narrow-tighter (either n c d) false r = then-tighter _ _ r (narrow-tighter c false r) (λ s. narrow-tighter d false s)
narrow-tighter (is_not n c) true r = narrow-tighter c false r
narrow-tighter (is_not n c) false r = narrow-tighter c true r
narrow-tighter (no_cond n) true r = tt
narrow-tighter (no_cond n) false r = tighter-refl r
