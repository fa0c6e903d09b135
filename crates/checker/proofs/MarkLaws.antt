-- The marks that are made of all points' alarms say of each node and kind what `raised` says, so that their pairs are the words of the alarm list.
-- Assumes nothing.
use Prim.Native.Nat.{ℕ, zero, suc, ◌*◌, ◌<◌, ◌≤◌, zero-le}
use mathlib.Core.Path.{◌≡◌, refl, ap, ◌∙◌}
use mathlib.Core.Bool.{Bool, true, false, ◌||◌}
use mathlib.Core.List.{List, ◌++◌}
use mathlib.Core.Logic.{inl, inr}
use native.Mathlib.Omega.{arith}
use borrow.Author.Tests.{le-ltb}
use lib.IntN.{ℤ}
use lib.ListN.{replicate}
use Rattle.words.specs.First.{some_below}
use Rattle.table.specs.Layout.{sizes_of, points_of, nodes_of}
use Rattle.table.specs.Decode.{point_of}
use Rattle.table.specs.Tree.{arith_at, cond_at}
use Rattle.table.specs.declared.Point.{Point}
use Rattle.table.specs.declared.Point.TheVariants.{End, Assign, Test, Lock, Unlock}
use Rattle.analysis.specs.declared.Alarm.{Alarm}
use Rattle.analysis.specs.declared.Row.{Row}
use Rattle.analysis.specs.Rows.{own_of}
use Rattle.analysis.specs.Alarms.{lists, place_of, marked_of}
use Rattle.analysis.specs.Laws.{IsKind, Kinds}
use Rattle.analysis.proofs.AlarmLaws.{lists-append, empty-kinds, append-kinds, marked-lists}
use Rattle.analysis.proofs.AnalysisLaws.{alarms-kinds, cond_alarms-kinds}
use Rattle.rules.specs.Proposal.{reached_of, row_at}
use Rattle.rules.specs.Alarms.{alarms_by, alarms_if, alarms_at, alarms_in}
use Rattle.checker.specs.AlarmList.{raised, pairs_at, pairs_of, alarm_words, marked_at}

-- the pairs go by the test of kinds 1 and 2 at the nodes below n
pairs-same : (f g : ℕ → ℕ → Bool) (n : ℕ) → ((m k : ℕ) → m < n → IsKind k → f m k ≡ g m k) → pairs_of f n ≡ pairs_of g n
unfolding pairs_at pairs_of
pairs-same f g zero h = refl
pairs-same f g (suc n) h =
    rw (pairs-same f g n (λ m k l is. h m k (omega arith) is), h n 1 (omega arith) (inl refl), h n 2 (omega arith) (inr refl))

-- ---- the kinds of points' alarms
by-kinds : (t : List ℤ) (x : Point) (r : Row) → Kinds (alarms_by t x r)
unfolding alarms_by
by-kinds t End r = empty-kinds
by-kinds t (Assign v e q) r = alarms-kinds (arith_at (nodes_of t) e) (own_of r)
by-kinds t (Test c y n) r = cond_alarms-kinds (cond_at (nodes_of t) c) (own_of r)
by-kinds t (Lock m q) r = empty-kinds
by-kinds t (Unlock m q) r = empty-kinds

if-kinds : (b : Bool) (l : List Alarm) → Kinds l → Kinds (alarms_if b l)
unfolding alarms_if
if-kinds true l h = h
if-kinds false l h = empty-kinds

module _ (t w : List ℤ) where
  at-kinds : (p : ℕ) → Kinds (alarms_at t w p)
  unfolding alarms_at
  at-kinds p = if-kinds (reached_of w p) _ (by-kinds t (point_of (points_of t) p) (row_at t w p))

  -- every point is from 0 on
  in-more : (p : ℕ) → alarms_in t w 0 (suc p) ≡ alarms_in t w 0 p ++ alarms_at t w p
  unfolding alarms_in alarms_if
  in-more p = rw (le-ltb p 0 zero-le)

  in-kinds : (points : ℕ) → Kinds (alarms_in t w 0 points)
  unfolding alarms_in
  in-kinds zero = empty-kinds
  in-kinds (suc p) = rw (in-more p) (append-kinds (alarms_in t w 0 p) (alarms_at t w p) (in-kinds p) (at-kinds p))

  -- ---- what they list
  in-lists : (n k points : ℕ) → lists n k (alarms_in t w 0 points) ≡ some_below (λ p. lists n k (alarms_at t w p)) points
  unfolding alarms_in some_below lists
  in-lists n k zero = refl
  in-lists n k (suc p) =
      rw (in-more p) (lists-append n k (alarms_in t w 0 p) (alarms_at t w p) ∙ ap (λ (b : Bool). b || lists n k (alarms_at t w p)) (in-lists n k p))

  -- ---- the marks
  pub marks-words : (room : ℕ) → 2 * (sizes_of t).nodes ≤ room
      → pairs_of (marked_at (marked_of (replicate room 0) (alarms_in t w 0 (sizes_of t).points))) (sizes_of t).nodes ≡ alarm_words t w
  unfolding raised alarm_words
  marks-words room h =
      let points = (sizes_of t).points in
      pairs-same _ (raised t w) (sizes_of t).nodes
      (λ n k l is. marked-lists (alarms_in t w 0 points) room n k (in-kinds points) is (place n k l is) ∙ in-lists n k points)
    where
      place : (n k : ℕ) → n < (sizes_of t).nodes → IsKind k → place_of n k < room
      place n k l (inl e) = omega arith
      place n k l (inr e) = omega arith
