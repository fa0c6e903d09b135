-- An error that ends an evaluation at a reached point is on the alarm list: its node is one of the table's, and the analysis calls it possible there.
-- Assumes nothing.
use Prim.Native.Nat.{ℕ, ◌<◌}
use mathlib.Core.Path.{◌≡◌, refl, ◌∙◌}
use mathlib.Core.Bool.{true}
use mathlib.Core.List.{List}
use native.Mathlib.Omega.{arith}
use lib.IntN.{ℤ}
use Rattle.words.proofs.FirstLaws.{one-some_below}
use Rattle.table.specs.declared.Point.TheVariants.{Assign, Test}
use Rattle.table.specs.Layout.{sizes_of, points_of, nodes_of}
use Rattle.table.specs.Decode.{point_of}
use Rattle.table.specs.Tree.{arith_at, cond_at}
use Rattle.table.specs.Meaning.{result, truth, stops}
use Rattle.analysis.specs.Rows.{own_of, Inside}
use Rattle.analysis.specs.Alarms.{lists}
use Rattle.analysis.specs.Laws.{IsKind}
use Rattle.analysis.proofs.Laws.{proved as laws}
use Rattle.rules.specs.Proposal.{reached_of, row_at}
use Rattle.rules.specs.Alarms.{alarms_by, alarms_if, alarms_at}
use Rattle.checker.specs.AlarmList.{raised, alarm_words}
use Rattle.checker.specs.Laws.{on_list}
use Rattle.checker.proofs.ListLaws.{on-holds}
use Rattle.run.proofs.EndLaws.{error-inside, failure-inside}
use Rattle.run.proofs.SlotLaws.{few-nodes}

-- ---- the node of an error
module _ (t vs ws : List ℤ) (e p n k q : ℕ) where
  arith-named : result (arith_at (nodes_of t) e) vs ws p ≡ stops n k q → n < (sizes_of t).nodes
  arith-named r = omega (arith, few-nodes t, (error-inside (nodes_of t) vs ws e p refl r).0)

  cond-named : truth (cond_at (nodes_of t) e) vs ws p ≡ stops n k q → n < (sizes_of t).nodes
  cond-named r = omega (arith, few-nodes t, (failure-inside (nodes_of t) vs ws e p refl r).0)

-- ---- the list
listed_at : (t w : List ℤ) (p n k : ℕ) → p < (sizes_of t).points → reached_of w p ≡ true → n < (sizes_of t).nodes → IsKind k
    → lists n k (alarms_by t (point_of (points_of t) p) (row_at t w p)) ≡ true → on_list n k (alarm_words t w) ≡ true
unfolding alarms_if alarms_at raised alarm_words
listed_at t w p n k h r below kind e =
    on-holds (raised t w) (sizes_of t).nodes n k below kind
    ∙ one-some_below (λ p. lists n k (alarms_at t w p)) (sizes_of t).points p h (rw r e)

module _ (t w ws : List ℤ) (vs : List ℤ) (p : ℕ) (h : p < (sizes_of t).points) (r : reached_of w p ≡ true) (i : Inside vs (own_of (row_at t w p))) where
  pub error-on-list : (v e g at n k q : ℕ) → point_of (points_of t) p ≡ Assign v e g
      → result (arith_at (nodes_of t) e) vs ws at ≡ stops n k q → on_list n k (alarm_words t w) ≡ true
  unfolding alarms_by
  error-on-list v e g at n k q is x =
      let listed = laws.error-listed (arith_at (nodes_of t) e) (own_of (row_at t w p)) vs ws at i n k q x in
      listed_at t w p n k h r (arith-named t vs ws e at n k q x) ((laws.alarms-kinds (arith_at (nodes_of t) e) (own_of (row_at t w p))).kind n k listed)
      (rw is listed)

  pub failure-on-list : (c y f at n k q : ℕ) → point_of (points_of t) p ≡ Test c y f
      → truth (cond_at (nodes_of t) c) vs ws at ≡ stops n k q → on_list n k (alarm_words t w) ≡ true
  unfolding alarms_by
  failure-on-list c y f at n k q is x =
      let listed = laws.failure-listed (cond_at (nodes_of t) c) (own_of (row_at t w p)) vs ws at i n k q x in
      listed_at t w p n k h r (cond-named t vs ws c at n k q x) ((laws.cond_alarms-kinds (cond_at (nodes_of t) c) (own_of (row_at t w p))).kind n k listed)
      (rw is listed)
