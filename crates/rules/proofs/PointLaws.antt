-- Rules 12, 13 and 14 at a point, by what stands there: from what the code's calls give to what the definitions say. Each public law is about one
-- `return` of the code, whose answer is y or is made of its tests.
-- Assumes nothing.
use Prim.Native.Nat.{ℕ, ◌+◌, ◌<◌}
use mathlib.Core.Path.{◌≡◌, refl, sym, ap, ◌∙◌}
use mathlib.Core.Bool.{Bool, true, false, not, cond, ◌&&◌, and-true, and_assoc}
use mathlib.Core.List.{List, [], ◌∷◌, ◌++◌}
use native.Mathlib.Omega.{arith}
use lib.Dec.{eqb}
use lib.IntN.{ℤ, pos}
use lib.ListN.{set}
use Rattle.words.specs.First.{all_below}
use Rattle.words.proofs.Bools.{fails, holds}
use Rattle.interval.specs.Lattice.{is_none_of, meet_of}
use Rattle.interval.specs.declared.Interval.{Interval}
use Rattle.interval.specs.declared.Cuts.{Cuts}
use Rattle.interval.specs.declared.Comparison.{Comparison}
use Rattle.interval.specs.Narrow.{cuts_of}
use Rattle.table.specs.declared.Sizes.{Sizes}
use Rattle.table.specs.Layout.{sizes_of, points_of, nodes_of, task_of}
use Rattle.table.specs.Decode.{shape_of, point_of}
use Rattle.table.specs.Tree.{Arith, Cond, compare, cond_by, arith_at, cond_at}
use Rattle.table.specs.declared.Shape.{Shape}
use Rattle.table.specs.declared.Shape.TheVariants.{Compare}
use Rattle.table.proofs.TreeLaws.{cond_of}
use Rattle.table.specs.declared.Point.{Point}
use Rattle.table.specs.declared.Point.TheVariants.{End, Assign, Test, Lock, Unlock}
use Rattle.analysis.specs.declared.Row.{Row}
use Rattle.analysis.specs.Rows.{row_of, range_of, slots_of, own_of, maybe_by, row_if, put_of, each}
use Rattle.analysis.specs.Alarms.{marked_of}
use Rattle.analysis.specs.Analysis.{value_of, cond_alarms_of, narrow_of}
use Rattle.analysis.specs.Cuts.{variable_or, met_if, cut_row_of}
use Rattle.analysis.specs.Arrays.{is_some, left_of}
use Rattle.analysis.specs.Bare.{bare_of, turned_of}
use Rattle.analysis.proofs.BareLaws.{narrow-bare, alarms-bare, Bared}
use Rattle.analysis.proofs.CutLaws.{narrow_cuts, cut-written, cut-first-none}
use Rattle.analysis.proofs.RowCodeLaws.{left-again}
use Rattle.rules.specs.declared.Fits.{Fits}
use Rattle.rules.specs.Held.{has_of, with_of, without_of}
use Rattle.rules.specs.Proposal.{held_of, row_at, rest_at}
use Rattle.rules.specs.Outcomes.{Outcome, row_within_of, meet_rows_of, assigned, written_of, outcome_if, only_if, outcomes_with, outcomes_by, outcomes_of}
use Rattle.rules.specs.Rules.{all_outcomes, locks_fit, rows_fit, filed, writes, rule12, rule13, rule14}
use Rattle.rules.specs.Alarms.{alarms_by, alarms_if, alarms_at}
use Rattle.rules.specs.Points.{side_of, tested_of, fits_by, fits_at}
use Rattle.rules.specs.Ready.{Whole}
use Rattle.rules.proofs.RowLaws.{written_once, slots_length, written_row, slots-within-is}
use Rattle.std.specs.Int.{int_min, int_max}
use Rattle.std.specs.Prelude.{None, Option, Some}
use Rattle.interval.specs.Interval.{span}

abbrev fits : Bool → Bool → Bool → Fits
fits locks flow write = record { locks = locks; flow = flow; write = write }

-- of no outcome nothing is asked
abbrev all_fit : Fits
all_fit = fits true true true

all_append : (f : Outcome → Bool) (l m : List Outcome) → all_outcomes f (l ++ m) ≡ all_outcomes f l && all_outcomes f m
unfolding all_outcomes
all_append f [] m = refl
all_append f (o ∷ l) m = rw (all_append f l m) (sym (and_assoc (f o) (all_outcomes f l) (all_outcomes f m)))

and-turned : (a b : Bool) → a && b ≡ b && a
and-turned true true = refl
and-turned true false = refl
and-turned false true = refl
and-turned false false = refl

all-turned : (f : Outcome → Bool) (l m : List Outcome) → all_outcomes f (l ++ m) ≡ all_outcomes f (m ++ l)
all-turned f l m = all_append f l m ∙ and-turned (all_outcomes f l) (all_outcomes f m) ∙ sym (all_append f m l)

module _ (t w : List ℤ) where
  -- one outcome; h is the held set of its target, y the target's row, and n the number of variables, as the code has them
  one_side : (s q : ℕ) (r : Row) {h n : ℕ} {y : Row} {flow : Bool} → h ≡ held_of w q → n ≡ (sizes_of t).variables → y ≡ row_at t w q
      → flow ≡ row_within_of n r y → fits (eqb h s) flow true ≡ side_of t w (outcome_if (Some r) s q)
  unfolding outcome_if locks_fit rows_fit all_outcomes
  one_side s q r held size there f = rw (f, size, there, held) (simp and-true)

  -- ---- a side of a test, by what narrowing left
  pub side-none : (s q : ℕ) (n : Bool) (r : Row) {y : Fits} → n ≡ false → y ≡ all_fit → y ≡ side_of t w (outcome_if (maybe_by n r) s q)
  unfolding maybe_by outcome_if locks_fit rows_fit all_outcomes
  side-none s q n r e f = rw e f

  pub side-some : (s q : ℕ) (n : Bool) (r : Row) {h v : ℕ} {y : Row} {flow : Bool} → n ≡ true → h ≡ held_of w q → v ≡ (sizes_of t).variables
      → y ≡ row_at t w q → flow ≡ row_within_of v r y → fits (eqb h s) flow true ≡ side_of t w (outcome_if (maybe_by n r) s q)
  unfolding maybe_by
  side-some s q n r e held size there f = rw e (one_side s q r held size there f)

  -- ---- an assignment
  module _ (p s : ℕ) (r : Row) (v e q : ℕ) {ns : List ℤ} {i : Option Interval} (at : ns ≡ nodes_of t) (is : i ≡ value_of (arith_at ns e) (own_of r)) where
    pub assign-none : {y : Fits} → i ≡ None → y ≡ all_fit → y ≡ fits_by t w (Assign v e q) p s r
    unfolding fits_by outcomes_with outcomes_by written_of assigned outcome_if writes filed locks_fit rows_fit all_outcomes
    assign-none g h = rw (← at, ← is, g) h

    -- lo and hi are the ends of what is written, lo' and hi' the same as the code hands them on
    pub assign-some : {lo hi lo' hi' : ℤ} {h n u : ℕ} {y : Row} {flow write : Bool}
        → Whole t r.lows r.highs → i ≡ span lo hi → lo' ≡ lo → hi' ≡ hi
        → h ≡ held_of w q → n ≡ (sizes_of t).variables → y ≡ row_at t w q
        → flow ≡ row_within_of n (written_row r.lows r.highs v lo' hi' 16 (pos 0) (pos 0)) y → u ≡ task_of t p
        → write ≡ filed t w u s v (span lo' hi') → fits (eqb h s) flow write ≡ fits_by t w (Assign v e q) p s r
    unfolding fits_by outcomes_with outcomes_by written_of assigned writes
    assign-some {lo = lo} {hi = hi} whole x a b held size there j k z =
        let low = written_once r.lows v 16 lo (pos 0) (omega (arith, whole.variables, whole.low)) in
        let high = written_once r.highs v 16 hi (pos 0) (omega (arith, whole.variables, whole.high)) in
        rw (z, k, a, b, ← at, ← is, x)
        (ap (λ (y : Fits). fits y.locks y.flow (filed t w (task_of t p) s v (span lo hi))) (one_side s q _ held size there (rw (a, b, low, high) at j)))

  -- ---- a test by the condition c
  pub test_fits : (p s : ℕ) (r : Row) (c y n : ℕ) {ns : List ℤ} {o : Fits} → ns ≡ nodes_of t → o ≡ tested_of t w (cond_at ns c) y n s r → o ≡ fits_by t w (Test c y n) p s r
  unfolding fits_by outcomes_with outcomes_by writes
  test_fits p s r c y n e f = rw e at f

  -- ---- a side of a test by a comparison: the row r, whose ends are all there, with the cuts u of v and x
  module _ (s q v x : ℕ) (r : Row) (u : Cuts) where
    abbrev cut_side : Fits
    cut_side = side_of t w (outcome_if (cut_row_of (own_of r) v x u) s q)

    pub first-none : u.left ≡ None → all_fit ≡ cut_side
    unfolding outcome_if locks_fit rows_fit all_outcomes
    first-none e = rw (cut-first-none (own_of r) v x u e)

    module _ {a : Interval} (d : v ≡ x → v < 16) (e : u.left ≡ Some a) where
      -- the cuts, where there is a first one
      written : cut_row_of (own_of r) v x u ≡ put_of (row_of (set (slots_of r.lows) v a.low) (set (slots_of r.highs) v a.high)) x (met_if (eqb v x) u.left u.right)
      written = cut-written (own_of r) (slots_length r.lows) (slots_length r.highs) v x u a.low a.high d e

      -- m is the second
      pub last_none : {m : Option Interval} → m ≡ met_if (eqb v x) u.left u.right → m ≡ None → all_fit ≡ cut_side
      unfolding put_of outcome_if locks_fit rows_fit all_outcomes
      last_none g h = rw (written, ← g, h)

      -- y is the target's row, and z the table's sizes, as the code has them
      pub both_left : {m : Option Interval} {b : Interval} {h : ℕ} {z : Sizes} {y : Row} {flow : Bool} → m ≡ met_if (eqb v x) u.left u.right → m ≡ Some b → Whole t r.lows r.highs
          → z ≡ sizes_of t → h ≡ held_of w q → y ≡ row_at t w q
          → flow ≡ row_within_of z.variables (written_row r.lows r.highs v a.low a.high x b.low b.high) y → fits (eqb h s) flow true ≡ cut_side
      unfolding put_of outcome_if locks_fit rows_fit all_outcomes
      both_left {b = b} g k whole size held there f =
          let few = whole.variables in
          let same = slots-within-is r.lows r.highs (sizes_of t).variables few (omega (arith, whole.low)) (omega (arith, whole.high)) v a.low a.high x b.low b.high (row_at t w q) in
          rw (written, ← g, k, f, size, held, there, same) (simp and-true)

  -- ---- a side of any other test, by what narrowing left: whether there is a row, and the row
  pub split-side : (m : Option Row) (s q : ℕ) {f : Bool} {r : Row} {y : Fits} → f ≡ is_some m → r ≡ left_of m → y ≡ side_of t w (outcome_if (maybe_by f r) s q)
      → y ≡ side_of t w (outcome_if m s q)
  split-side m s q e g y = rw (← left-again m, ← e, ← g) y

  -- ---- a comparison of a and b: a side, by the cuts that were made of their intervals i and j
  pub compared-side :
      (k : Comparison) (a b : Arith) (wanted : Bool) (s q : ℕ) (r : Row) {i j : Option Interval} {v x : ℕ} {u : Cuts} {y : Fits}
      → i ≡ value_of a (own_of r) → j ≡ value_of b (own_of r) → v ≡ variable_or 16 a → x ≡ variable_or 17 b → u ≡ cuts_of k wanted i j
      → y ≡ side_of t w (outcome_if (cut_row_of (own_of r) v x u) s q) → y ≡ side_of t w (outcome_if (narrow_of (compare 0 k a b) wanted (own_of r)) s q)
  compared-side k a b wanted s q r e f g h c y =
      let low = slots_length r.lows in
      let high = slots_length r.highs in
      rw (narrow_cuts 0 k a b wanted (own_of r) (omega arith) (omega arith)) (rw (g, h, c, e, f) at y)

  -- ---- both sides of a test by the condition c
  pub both-fit : (c : Cond) (y n s : ℕ) (r : Row) {i o : Fits} → i ≡ side_of t w (outcome_if (narrow_of c true (own_of r)) s y)
      → o ≡ side_of t w (outcome_if (narrow_of c false (own_of r)) s n) → fits (i.locks && o.locks) (i.flow && o.flow) true ≡ tested_of t w c y n s r
  unfolding locks_fit rows_fit
  both-fit c y n s r e f = rw (e, f, all_append, all_append)

  -- a test by the condition under the 'not' around it: where they turn it, the sides change places
  pub bare-tested : (c : Cond) (y n s : ℕ) (r : Row) → tested_of t w (bare_of c) (cond (turned_of c) n y) (cond (turned_of c) y n) s r ≡ tested_of t w c y n s r
  unfolding locks_fit rows_fit
  bare-tested c y n s r = rw (narrow-bare c true (own_of r), narrow-bare c false (own_of r)) (by (turned_of c))
    where
      side : Bool → ℕ → List Outcome
      side v q = outcome_if (narrow_of (bare_of c) v (own_of r)) s q

      by : (b : Bool) → side_of t w (side true (cond b n y) ++ side false (cond b y n)) ≡ side_of t w (side (cond b false true) y ++ side (cond b true false) n)
      by true = rw (all-turned _ (side true n) (side false y), all-turned _ (side true n) (side false y)) refl
      by false = refl

-- the code tests the condition at the node b under the 'not' around the node c, which turn it if q, and goes on at i or at j
module _ (t : List ℤ) (c y n b : ℕ) (r : Row) {ns : List ℤ} (at : ns ≡ nodes_of t) (bared : cond_at ns b ≡ bare_of (cond_at ns c)) where
  pub test-value : (w : List ℤ) (p s : ℕ) {q : Bool} {i j : ℕ} {o : Fits} → q ≡ turned_of (cond_at ns c) → i ≡ cond q n y → j ≡ cond q y n
      → o ≡ tested_of t w (cond_at ns b) i j s r → o ≡ fits_by t w (Test c y n) p s r
  test-value w p s turned first second f = test_fits t w p s r c y n at (rw (bared, first, second, turned) at f ∙ bare-tested t w (cond_at ns c) y n s r)

  pub test-marks : (m : List ℕ) {m' : List ℕ} → m' ≡ marked_of m (cond_alarms_of (cond_at ns b) (own_of r)) → m' ≡ marked_of m (alarms_by t (Test c y n) r)
  unfolding alarms_by
  test-marks m f = rw (← at, alarms-bare (cond_at ns c) (own_of r), ← bared) f

-- a comparison's tree, by the shape z that stands at its node
pub compared-at : (ns : List ℤ) (b : ℕ) {z : Shape} {k : Comparison} {x y : ℕ} → z ≡ shape_of ns b → z ≡ Compare k x y → cond_at ns b ≡ compare b k (arith_at ns x) (arith_at ns y)
unfolding cond_by
compared-at ns b g h = cond_of ns b (sym g ∙ h)
