-- What acceptance says of the places that a run comes to, rule by rule.
--     held-set, reached-test     a reached point has a held set, and passes the test of rules 12 to 16 (rule 9)
--     first-held, first-row      a task's first point (rule 11)
--     rest-start                 a rest row (rule 11)
--     arrive                     an outcome's target: its held set fits, and its row holds the values (rules 12 and 13)
--     Filed, assign-filed        the entry that covers a write (rule 14)
--     filed-takes                a row that takes an entry holds what was filed under it
--     disturb-takes              the row of a point takes each entry of another task with a disjoint held set (rule 15)
--     unlock-within              the row of an unlock lies within the rest row (rule 16)
--     entry-takes                the rest row of a mutex takes each entry without it (rule 16)
-- Assumes nothing.
use Prim.Native.Nat.{ℕ, zero, suc, ◌+◌, ◌-◌, ◌<◌, ◌^◌}
use mathlib.Core.Path.{◌≡◌, refl, sym, ap, subst}
use mathlib.Core.Bool.{Bool, true, false, not, cond, ◌&&◌, ◌||◌}
use mathlib.Core.List.{List}
use native.Mathlib.Omega.{arith}
use borrow.Author.Tests.{ltb-true, lt-ltb, le-ltb, eqb-true, eq-eqb, ne_eqb}
use lib.Dec.{eqb, ltb}
use lib.IntN.{ℤ, pos, negsuc}
use Rattle.interval.specs.Interval.{from_to, Within, Holds, span}
use Rattle.interval.specs.declared.Interval.{Interval}
use Rattle.interval.proofs.IntervalLaws.{from_to-holds, from_to-only}
use Rattle.interval.proofs.LatticeLaws.{within-holds}
use Rattle.words.specs.Words.{word_of}
use Rattle.words.proofs.Bools.{clash, and-true, and_left, and_right}
use Rattle.words.proofs.FirstLaws.{all_below-each, some_below-one, one-some_below}
use Rattle.table.specs.declared.Point.TheVariants.{Assign, Unlock}
use Rattle.table.specs.Layout.{sizes_of, points_of, first_of, task_of}
use Rattle.table.specs.Decode.{point_of}
use Rattle.table.specs.Passes.{Passes}
use Rattle.table.proofs.PassLaws.{passes}
use Rattle.analysis.specs.declared.Row.{Row}
use Rattle.analysis.specs.Rows.{Inside}
use Rattle.rules.specs.Held.{has_of, disjoint_of}
use Rattle.rules.specs.Proposal.{entries_of, heads_from, lows_from, held_word_of, held_of, reached_of, head_of, row_at, rest_at, entry_low, entry_high}
use Rattle.rules.specs.Outcomes.{Outcome, row_within_of, written_of, outcome_if, only_if, outcomes_with, outcomes_by, outcomes_of}
use Rattle.rules.specs.Rules.{minus_one, implies, all_outcomes, held_in_range, rule9, holds_start, is_first, start_point, rule11, held_fits, locks_fit, rows_fit, rule12, rule13, files, filed, writes, rule14, takes, disturbs, undisturbed, rule15, rests, rest_point, rest_entry, rule16}
use Rattle.checker.specs.Laws.{Accepts}
use Rattle.run.specs.State.{values_of}
use Rattle.run.proofs.SlotLaws.{first-point}
use Rattle.soundness.specs.Safe.{Reached}
use Rattle.rules.proofs.SetLaws.{few-small}
use Rattle.soundness.proofs.RowLaws.{Past, within-inside, start-inside}
use Rattle.soundness.proofs.BringsLaws.{all_in, Brings}
use Rattle.std.specs.Prelude.{None, Option, Some}

implied : (a b : Bool) → implies a b ≡ true → a ≡ true → b ≡ true
implied true b e p = e
implied false b e p = clash (sym p)

-- a rule with two sorts of places, at a place of the first sort and of the second
low-place : (p n : ℕ) (a b : Bool) → cond (ltb p n) a b ≡ true → p < n → a ≡ true
low-place p n a b e h = rw (lt-ltb p n h) at e

high-place : (k n : ℕ) (a b : Bool) → cond (ltb (n + k) n) a b ≡ true → b ≡ true
high-place k n a b e = rw (le-ltb (n + k) n (omega arith)) at e

-- what holds of each word but -1, of a word that isn't -1
not-minus : (z : ℤ) (b : Bool) → (z ≡ negsuc 0 → ⊥) → minus_one z || b ≡ true → b ≡ true
not-minus (pos n) b h e = e
not-minus (negsuc zero) b h e = absurd (h refl)
not-minus (negsuc (suc n)) b h e = e

-- ---- a write and its entry
-- the entry is for the task u, the set s and the variable v, and holds z
pub record Filed (t w : List ℤ) (u s v : ℕ) (z : ℤ) : Type 0 where
  pub entry : ℕ
  pub below : entry < entries_of w
  pub task : head_of t w entry 0 ≡ u
  pub held : head_of t w entry 1 ≡ s
  pub variable : head_of t w entry 2 ≡ v
  pub inside : Within (entry_low t w entry) (entry_high t w entry) z

module _ (t w : List ℤ) (u s v : ℕ) (z : ℤ) where
  filed-of : (x : Option Interval) → filed t w u s v x ≡ true → Holds x z → Filed t w u s v z
  unfolding filed files
  filed-of None e i = absurd i
  filed-of (Some d) e i =
      let k = some_below-one (files t w u s v (span d.low d.high)) (entries_of w) e in
      let at_set = and_right (eqb (head_of t w k.0 0) u) _ k.2 in
      let at-variable = and_right (eqb (head_of t w k.0 1) s) _ at_set in
      let within = and_right (eqb (head_of t w k.0 2) v) _ at-variable in
      record {
        entry = k.0;
        below = k.1;
        task = eqb-true _ _ (and_left _ _ k.2);
        held = eqb-true _ _ (and_left _ _ at_set);
        variable = eqb-true _ _ (and_left _ _ at-variable);
        inside = from_to-only (entry_low t w k.0) (entry_high t w k.0) z (within-holds (span d.low d.high) _ within z i);
      }

  pub filed-takes : (r : Row) (k : Filed t w u s v z) → takes t w r k.entry ≡ true → Within (word_of r.lows v) (word_of r.highs v) z
  unfolding takes
  filed-takes r k e =
      subst (λ (x : ℕ). Within (word_of r.lows x) (word_of r.highs x) z) k.variable
      (from_to-only _ _ z (within-holds (from_to (entry_low t w k.entry) (entry_high t w k.entry)) _ e z (from_to-holds k.inside)))

-- ---- the target q of an outcome that brings the held set s, with the values vs
pub record Arrived (t w : List ℤ) (q s : ℕ) (vs : List ℤ) : Type 0 where
  pub fit : held_fits s (held_of w q) ≡ true
  pub row : Inside vs (row_at t w q)

-- ---- an accepted proposal
module _ {t w : List ℤ} {room count : ℕ} (ok : Accepts t w room count) where
  -- 1 to 6
  pub formed : Passes t
  formed = passes t ok.table

  -- 9
  pub held-set : (p : ℕ) → Reached t w p → held_of w p < 2 ^ (sizes_of t).mutexes
  unfolding rule9 heads_from lows_from held_in_range
  held-set p r =
      let l = r.point in
      let q : 4 + p - 4 ≡ p = omega arith in
      let e = rw (le-ltb (4 + p) 4 (omega arith), lt-ltb (4 + p) (4 + (sizes_of t).points) (omega arith), q) at (ok.range (4 + p) (omega arith)) in
      ltb-true _ _ (not-minus (held_word_of w p) _ r.held e)

  pub held_small : (p : ℕ) → Reached t w p → held_of w p < 256
  held_small p r = omega (arith, held-set p r, few-small (sizes_of t).mutexes formed.mutexes.high)

  pub reached-test : (p : ℕ) → Reached t w p → reached_of w p ≡ true
  reached-test p r = let small = held_small p r in ap not (ne_eqb (held_of w p) 4294967295 (λ e. omega arith))

  -- 11
  first-start : (u : ℕ) → u < (sizes_of t).tasks → eqb (held_of w (first_of t u)) 0 && holds_start t (row_at t w (first_of t u)) ≡ true
  unfolding rule11 start_point
  first-start u h =
      let p = first-point formed u h in
      implied (is_first t (first_of t u)) _ (low-place (first_of t u) _ _ _ (ok.start (first_of t u) (omega arith)) p)
      (one-some_below (λ k. eqb (first_of t k) (first_of t u)) (sizes_of t).tasks u h (eq-eqb (first_of t u) (first_of t u) refl))

  pub first-held : (u : ℕ) → u < (sizes_of t).tasks → held_of w (first_of t u) ≡ 0
  first-held u h = eqb-true _ _ (and_left _ _ (first-start u h))

  pub first-row : (u : ℕ) → u < (sizes_of t).tasks → Inside (values_of t) (row_at t w (first_of t u))
  first-row u h = start-inside t w (first_of t u) formed.variables.high (and_right (eqb (held_of w (first_of t u)) 0) _ (first-start u h))

  pub rest-start : (m : ℕ) → m < (sizes_of t).mutexes → Inside (values_of t) (rest_at t w m)
  unfolding rule11
  rest-start m h =
      start-inside t w ((sizes_of t).points + m) formed.variables.high
      (high-place m (sizes_of t).points _ _ (ok.start ((sizes_of t).points + m) (omega arith)))

  -- 12 and 13
  pub arrive : (p q s : ℕ) (vs : List ℤ) → Reached t w p → Past t vs → Brings (outcomes_of t w p) q s vs → Arrived t w q s vs
  unfolding rule12 rule13 locks_fit rows_fit
  arrive p q s vs r past b =
      record {
        fit = all_in (λ (o : Outcome). held_fits o.held (held_of w o.target)) b.one
            (implied (reached_of w p) _ (ok.locks p r.point) (reached-test p r));
        row = within-inside t w q b.row past
            (all_in (λ (o : Outcome). row_within_of (sizes_of t).variables o.row (row_at t w o.target)) b.one
            (implied (reached_of w p) _ (ok.flow p r.point) (reached-test p r)))
            b.inside;
      }

  -- 14
  pub assign-filed : (p v e q : ℕ) (z : ℤ) → Reached t w p → point_of (points_of t) p ≡ Assign v e q → Holds (written_of t e (row_at t w p)) z
      → Filed t w (task_of t p) (held_of w p) v z
  unfolding rule14 writes
  assign-filed p v e q z r is h =
      let told = rw is at (implied (reached_of w p) _ (ok.write p r.point) (reached-test p r)) in
      filed-of t w (task_of t p) (held_of w p) v z (written_of t e (row_at t w p)) told h

  -- 15
  pub disturb-takes : (p i : ℕ) → Reached t w p → i < entries_of w → (head_of t w i 0 ≡ task_of t p → ⊥)
      → disjoint_of (head_of t w i 1) (held_of w p) ≡ true → takes t w (row_at t w p) i ≡ true
  unfolding rule15 undisturbed disturbs
  disturb-takes p i r l n d =
      implied (disturbs t w (task_of t p) (held_of w p) i) _
      (all_below-each (undisturbed t w p) (entries_of w) (implied (reached_of w p) _ (ok.disturb p r.point) (reached-test p r)) i l)
      (and-true (ap not (ne_eqb _ _ n)) d)

  -- 16
  pub unlock-within : (p m q : ℕ) → Reached t w p → point_of (points_of t) p ≡ Unlock m q → has_of (held_of w p) m ≡ true
      → row_within_of (sizes_of t).variables (row_at t w p) (rest_at t w m) ≡ true
  unfolding rule16 rest_point rests outcomes_of outcomes_with outcomes_by only_if outcome_if all_outcomes
  unlock-within p m q r is n =
      let l = r.point in
      let told = implied (reached_of w p) _ (low-place p (sizes_of t).points _ _ (ok.rest p (omega arith)) l) (reached-test p r) in
      and_left _ true (rw (is, n) at told)

  pub entry-takes : (i m : ℕ) → i < entries_of w → m < (sizes_of t).mutexes → has_of (head_of t w i 1) m ≡ false → takes t w (rest_at t w m) i ≡ true
  unfolding rule16 rest_entry
  entry-takes i m l h n =
      let q : (sizes_of t).points + i - (sizes_of t).points ≡ i = omega arith in
      let e = rw q at (high-place i (sizes_of t).points _ _ (ok.rest ((sizes_of t).points + i) (omega arith))) in
      implied (not (has_of (head_of t w i 1) m)) _
      (all_below-each (λ m. implies (not (has_of (head_of t w i 1) m)) (takes t w (rest_at t w m) i)) (sizes_of t).mutexes e m h)
      (ap not n)
