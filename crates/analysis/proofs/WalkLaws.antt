-- The walk that evaluates a tree on a row and marks its alarms, a law for each way in which the code puts a tree's answer together from those of its parts.
-- Assumes nothing.
use Prim.Native.Nat.{ℕ, ◌<◌, ◌≤◌}
use mathlib.Core.Path.{◌≡◌, refl, sym, ◌∙◌}
use mathlib.Core.Bool.{Bool, true, false, not, cond, ◌&&◌}
use mathlib.Core.List.{List, ◌++◌}
use lib.IntN.{ℤ}
use lib.ListN.{length}
use Rattle.interval.specs.Lattice.{join_of}
use Rattle.interval.specs.Compare.{compare_of}
use Rattle.interval.specs.Narrow.{cuts_of}
use Rattle.interval.specs.declared.Interval.{Interval}
use Rattle.interval.specs.declared.Comparison.{Comparison}
use Rattle.interval.specs.declared.Decision.{Decision}
use Rattle.interval.specs.declared.Cuts.{Cuts}
use Rattle.table.specs.declared.Shape.TheVariants.{Compare}
use Rattle.table.specs.Decode.{shape_of}
use Rattle.table.specs.Tree.{Arith, Cond, choice, compare, arith_at, cond_at}
use Rattle.analysis.specs.declared.Alarm.{Alarm}
use Rattle.analysis.specs.Rows.{Row, row_if, maybe_by, then_row, join_rows_of}
use Rattle.analysis.specs.Alarms.{marked_of}
use Rattle.analysis.specs.Analysis.{value_of, alarms_of, decision_of, cond_alarms_of, narrow_of, range_on, alarms_on}
use Rattle.analysis.specs.Bare.{bare_of, turned_of}
use Rattle.analysis.specs.Cuts.{variable_or, cut_row_of}
use Rattle.analysis.specs.Arrays.{is_some, pair_of, combined_of}
use Rattle.analysis.proofs.AlarmLaws.{marked_append}
use Rattle.analysis.proofs.BareLaws.{bare_choice, bare_choice_alarms}
use Rattle.analysis.proofs.CutLaws.{slots-differ, narrow_cuts}
use Rattle.analysis.proofs.NodeTreeLaws.{compare_at, compare_below}
use Rattle.analysis.proofs.JoinLaws.{join_rows-assoc}
use Rattle.std.specs.Prelude.{Option}

-- marks of one list, then of another
pub marked-then : (l k : List Alarm) (m : List ℕ) {m' m'' : List ℕ} → m' ≡ marked_of m l → m'' ≡ marked_of m' k → m'' ≡ marked_of m (l ++ k)
marked-then l k m p q = rw (marked_append m l k, ← p) q

-- ---- a choice
-- a branch is taken if the condition allows it and leaves a row
pub taken_both : (t u : Bool) (r : Row) → maybe_by (t && u) r ≡ row_if t (maybe_by u r)
unfolding maybe_by row_if
taken_both true u r = refl
taken_both false u r = refl

-- what the walk gives, from the marks m to the marks m': the interval i of the tree t on the row r
abbrev ValuedTree : Arith → Row → List ℕ → Option Interval → List ℕ → Type 0
ValuedTree t r m i m' = record { value : i ≡ value_of t r; marks_after : m' ≡ marked_of m (alarms_of t r) }

-- the same of a branch of a choice, on the row s, or none
abbrev Branched : List ℤ → Option Row → ℕ → List ℕ → Option Interval → List ℕ → Type 0
Branched ns s n m i m' = record { value : i ≡ range_on s (value_of (arith_at ns n)); marks_after : m' ≡ marked_of m (alarms_on s (alarms_of (arith_at ns n))) }

-- what a condition leaves of the row r on both sides
abbrev Sides : Cond → Row → List ℕ → Decision → Option Row → Option Row → List ℕ → Type 0
Sides c r m d y z m' = (d ≡ decision_of c r) × ((y ≡ narrow_of c true r) × ((z ≡ narrow_of c false r) × (m' ≡ marked_of m (cond_alarms_of c r))))

-- a choice by the condition c, from what that said and from the branches
chosen_of :
    (ns : List ℤ) (r : Row) (c : Cond) (x y : ℕ) (m : List ℕ) {d : Decision} {s t : Option Row} {i j k : Option Interval} {m₁ m₂ m₃ : List ℕ}
    → Sides c r m d s t m₁ → Branched ns (row_if d.yes s) x m₁ i m₂ → Branched ns (row_if d.no t) y m₂ j m₃ → k ≡ join_of i j
    → ValuedTree (choice 0 c (arith_at ns x) (arith_at ns y)) r m k m₃
unfolding value_of
chosen_of ns r c x y m h then else l =
    rw (← h.0, ← h.1.0, ← h.1.1.0, ← then.value, ← else.value)
    (record { value = l; marks_after = marked-then _ _ m h.1.1.1 (marked-then _ _ _ then.marks_after else.marks_after) })

pub chosen :
    (ns : List ℤ) (r : Row) (c x y : ℕ) (m : List ℕ) {d : Decision} (f g : Bool) (u v : Row) {i j k : Option Interval} {m₁ m₂ m₃ : List ℕ}
    → Sides (cond_at ns c) r m d (maybe_by f u) (maybe_by g v) m₁ → Branched ns (maybe_by (d.yes && f) u) x m₁ i m₂
    → Branched ns (maybe_by (d.no && g) v) y m₂ j m₃ → k ≡ join_of i j
    → ValuedTree (choice 0 (cond_at ns c) (arith_at ns x) (arith_at ns y)) r m k m₃
chosen ns r c x y m {d} f g u v h p q l =
    chosen_of ns r (cond_at ns c) x y m h (rw (taken_both d.yes f u) at p) (rw (taken_both d.no g v) at q) l

-- by a comparison at the node b, under the 'not' of the condition at n
module _
    (ns : List ℤ) (n b x y v w p q : ℕ) (k : Comparison) (t : Bool) (r : Row)
    (shape : Compare k p q ≡ shape_of ns b) (at : cond_at ns b ≡ bare_of (cond_at ns n)) (turns : t ≡ turned_of (cond_at ns n)) (one : v ≡ cond t y x) (other : w ≡ cond t x y) where
  pub bare_comparison : value_of (choice 0 (cond_at ns n) (arith_at ns x) (arith_at ns y)) r ≡ value_of (choice 0 (compare 0 k (arith_at ns p) (arith_at ns q)) (arith_at ns v) (arith_at ns w)) r
  unfolding value_of
  bare_comparison = bare_choice ns n b x y v w t r at turns one other ∙ rw (compare_at ns b k p q shape) refl

  pub bare_comparison_alarms :
      (m : List ℕ) → marked_of m (alarms_of (choice 0 (cond_at ns n) (arith_at ns x) (arith_at ns y)) r) ≡ marked_of m (alarms_of (choice 0 (compare 0 k (arith_at ns p) (arith_at ns q)) (arith_at ns v) (arith_at ns w)) r)
  unfolding value_of
  bare_comparison_alarms m = bare_choice_alarms ns n b x y v w t r at turns one other m ∙ rw (compare_at ns b k p q shape) refl

pub ruleset bare_choices = (bare_choice, bare_choice_alarms, bare_comparison, bare_comparison_alarms, compare_below)

-- by a comparison of x and y
module _ (k : Comparison) (x y a b : Arith) (r : Row) (low : length r.lows ≤ 16) (high : length r.highs ≤ 16) where
  abbrev Cut : Bool → Option Row
  Cut w = cut_row_of r (variable_or 16 x) (variable_or 17 y) (cuts_of k w (value_of x r) (value_of y r))

  is : (w : Bool) → narrow_of (compare 0 k x y) w r ≡ Cut w
  is w = narrow_cuts 0 k x y w r low high

  pub cut_choice :
      value_of (choice 0 (compare 0 k x y) a b) r
      ≡ join_of
      (range_on (row_if (compare_of k (value_of x r) (value_of y r)).yes (Cut true)) (value_of a))
      (range_on (row_if (compare_of k (value_of x r) (value_of y r)).no (Cut false)) (value_of b))
  unfolding decision_of
  cut_choice = rw (← is true, ← is false) refl

  pub cut_choice_alarms :
      (m : List ℕ)
      → marked_of m (alarms_of (choice 0 (compare 0 k x y) a b) r)
      ≡ marked_of
      (marked_of (marked_of (marked_of m (alarms_of x r)) (alarms_of y r)) (alarms_on (row_if (compare_of k (value_of x r) (value_of y r)).yes (Cut true)) (alarms_of a)))
      (alarms_on (row_if (compare_of k (value_of x r) (value_of y r)).no (Cut false)) (alarms_of b))
  unfolding decision_of
  cut_choice_alarms m =
      rw (
        ← is true,
        ← is false,
        ← marked_append m (alarms_of x r) (alarms_of y r),
        marked_append m (alarms_of x r ++ alarms_of y r),
        marked_append (marked_of m (alarms_of x r ++ alarms_of y r)),
      )
      refl

pub ruleset cut_choices = (cut_choice, cut_choice_alarms)

-- ---- two conditions, both of them or either, by the truth that is asked for
pub pair_decided : (w : Bool) (c d : Cond) (r : Row) → decision_of (pair_of w c d) r ≡ combined_of w (decision_of c r) (decision_of d r)
unfolding pair_of combined_of decision_of
pair_decided true c d r = refl
pair_decided false c d r = refl

pub pair_alarms : (w : Bool) (c d : Cond) (r : Row) (m : List ℕ) → marked_of m (cond_alarms_of (pair_of w c d) r) ≡ marked_of (marked_of m (cond_alarms_of c r)) (cond_alarms_of d r)
unfolding pair_of cond_alarms_of
pair_alarms true c d r m = marked_append m (cond_alarms_of c r) (cond_alarms_of d r)
pair_alarms false c d r m = marked_append m (cond_alarms_of c r) (cond_alarms_of d r)

-- a row that is narrowed by both in turn: the first left y of it, if f, and the second z of that, if g
in-turn : (w : Bool) (d : Cond) (s : Option Row) (f g : Bool) (y z : Row) → maybe_by f y ≡ s → maybe_by g z ≡ narrow_of d w y → maybe_by (f && g) z ≡ then_row s (narrow_of d w)
unfolding maybe_by then_row
in-turn w d s true g y z h k = rw (← h) k
in-turn w d s false g y z h k = rw (← h) refl

pub pair_in_turn : (w : Bool) (c d : Cond) (r : Row) (f g : Bool) (y z : Row) → maybe_by f y ≡ narrow_of c w r → maybe_by g z ≡ narrow_of d w y → maybe_by (f && g) z ≡ narrow_of (pair_of w c d) w r
unfolding pair_of narrow_of
pair_in_turn true c d r f g y z h k = in-turn true d (narrow_of c true r) f g y z h k
pair_in_turn false c d r f g y z h k = in-turn false d (narrow_of c false r) f g y z h k

-- and what their opposites leave of a row, joined to s
pub pair_joined : (w : Bool) (c d : Cond) (r : Row) (s : Option Row) → join_rows_of s (narrow_of (pair_of w c d) (not w) r) ≡ join_rows_of (join_rows_of s (narrow_of c (not w) r)) (narrow_of d (not w) r)
unfolding pair_of narrow_of
pair_joined true c d r s = sym (join_rows-assoc s (narrow_of c false r) (narrow_of d false r))
pair_joined false c d r s = sym (join_rows-assoc s (narrow_of c true r) (narrow_of d true r))

pub ruleset pairs = (pair_decided, pair_alarms, pair_in_turn, pair_joined)

-- ---- a comparison
-- its cuts on a row of sixteen slots, put in place of the intervals of its variables
pub cut-leaves :
    (ns : List ℤ) (r : Row) → length r.lows ≤ 16 → length r.highs ≤ 16 → (k : Comparison) (t : Bool) (x y : ℕ) {v w : ℕ} {u : Cuts}
    → v ≡ variable_or 16 (arith_at ns x) → w ≡ variable_or 17 (arith_at ns y)
    → u ≡ cuts_of k t (value_of (arith_at ns x) r) (value_of (arith_at ns y) r)
    → cut_row_of r v w u ≡ narrow_of (compare 0 k (arith_at ns x) (arith_at ns y)) t r
cut-leaves ns r low high k t x y p q e = rw (p, q, e) (sym (narrow_cuts 0 k (arith_at ns x) (arith_at ns y) t r low high))

-- one variable on both sides has a slot
pub one_slot : (x y : Arith) (v w : ℕ) → v ≡ variable_or 16 x → w ≡ variable_or 17 y → v ≡ w → v < 16
one_slot x y v w p q e = rw p (slots-differ x y (sym p ∙ e ∙ q))

-- ---- a condition's answer as other crates are given it
pub some_by : (f : Bool) (r : Row) → is_some (maybe_by f r) ≡ f
unfolding is_some maybe_by
some_by true r = refl
some_by false r = refl
