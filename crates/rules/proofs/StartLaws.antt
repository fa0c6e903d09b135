-- Refusal 11 by its tests. Of the points it looks at the tasks' first ones, which rise with the task; a loop over the tasks of a proposal p has the
-- invariant `Started p u first`, u and first the loop's task and its first point:
--     start         where the loop begins
--     starts        the task can start: the invariant at the next one
--     stops         it can't: what the loop's `return` gives
--     started       every task can: what is given after the loop
-- Assumes nothing.
use Prim.Native.Nat.{ℕ, suc, ◌+◌, ◌<◌, ◌≤◌}
use mathlib.Core.Path.{◌≡◌, refl, sym, ap, ◌∙◌}
use mathlib.Core.Bool.{Bool, true, false, ◌&&◌}
use mathlib.Core.List.{List}
use mathlib.Core.Logic.{⊎_elim}
use native.Mathlib.Nat.{eq-or-lt_of_le}
use native.Mathlib.Numerals.{add-one}
use native.Mathlib.Omega.{arith}
use borrow.Author.Tests.{eq-eqb, ne_eqb, lt-ltb, le-ltb}
use lib.Dec.{eqb}
use lib.IntN.{ℤ}
use lib.ListN.{length}
use lib.Signed.{le_z, ≤ℤ_refl}
use Rattle.words.specs.Words.{word_of, number_at}
use Rattle.words.proofs.FirstLaws.{one-some_below}
use Rattle.words.proofs.PartLaws.{part_length}
use Rattle.interval.specs.Lattice.{within_of}
use Rattle.interval.proofs.IntegerLaws.{le-true}
use Rattle.table.specs.Layout.{sizes_of, shares_of, starts_of, first_in, first_of}
use Rattle.table.specs.Passes.{Passes}
use Rattle.table.specs.declared.checked.Table.{Table}
use Rattle.rules.proofs.ProposalLaws.{passed_table}
use Rattle.table.proofs.LayoutLaws.{first_more}
use Rattle.table.proofs.TaskLaws.{first-le}
use Rattle.analysis.specs.declared.Row.{Row}
use Rattle.analysis.specs.Rows.{range_of}
use Rattle.rules.specs.declared.proposal.Proposal.{Proposal}
use Rattle.rules.specs.Proposal.{held_of, row_at}
use Rattle.rules.specs.Rules.{is_first, holds_start, start_point, rule11}
use Rattle.words.specs.First.{places, first_bad_in}
use Rattle.words.proofs.PlaceLaws.{Sought, seek, skips, sought, unfound}
use Rattle.rules.proofs.RowLaws.{ends-within}
use Rattle.rules.proofs.SomeLaws.{none-some_below}
use Rattle.std.specs.Prelude.{None, Some}
use Rattle.interval.specs.Interval.{span}

-- ---- a starting value within a row: it is compared with both ends
abbrev pub value_within : List ℤ → Row → ℕ → Bool
value_within values r v = within_of (span (word_of values v) (word_of values v)) (range_of r v)

pub value-within : (values : List ℤ) (r : Row) (v : ℕ) → let z = word_of values v in
    le_z (word_of r.lows v) z && le_z z (word_of r.highs v) ≡ value_within values r v
value-within values r v =
    let z = word_of values v in
    let same = le-true (≤ℤ_refl z) in
    rw same at (ends-within z z (word_of r.lows v) (word_of r.highs v) same)

-- each variable has one
pub starts_count : (t : Table) → length t.starts.now ≡ t.sizes.variables
unfolding starts_of
starts_count t =
    let table = passed_table t in
    let from = 5 + (sizes_of t.words.now).tasks in
    rw (t.cut.starts, t.cut.sizes) (part_length t.words.now from (sizes_of t.words.now).variables (rw table.whole (omega arith)))

-- ---- at a rest row
pub start_at_rest : (t w : List ℤ) (place : ℕ) → (sizes_of t).points ≤ place → rule11 t w place ≡ holds_start t (row_at t w place)
unfolding rule11
start_at_rest t w place l = rw (le-ltb place (sizes_of t).points l)

-- ---- at a task's first point: no mutex is held there, and the row is tested
abbrev Tested : List ℤ → List ℤ → ℕ → Bool
Tested t w p = eqb (held_of w p) 0 && holds_start t (row_at t w p)

-- ---- at a point of a table that passed
module _ {t : List ℤ} (table : Passes t) where
  next-within : (u : ℕ) → u < (sizes_of t).tasks → first_of t (suc u) ≤ (sizes_of t).points
  unfolding first_of
  next-within u l = omega (arith, first-le (shares_of t) (suc u) (sizes_of t).tasks l, table.sum)

  -- one that is past a task's first, and below the next task's, is no first one
  later : (u j : ℕ) → u < (sizes_of t).tasks → first_of t u < j → j < first_of t (suc u) → is_first t j ≡ false
  later u j l past below = sym (none-some_below (λ k. eqb (first_of t k) j) (sizes_of t).tasks (λ k h. ne_eqb (first_of t k) j (other k h)))
    where
      other : (k : ℕ) → k < (sizes_of t).tasks → first_of t k ≡ j → ⊥
      other k h e =
          let here = table.owner k j h (omega arith) (omega (arith, table.share k h)) in
          let there = table.owner u j l (omega arith) below in
          absurd (omega (arith, ap (first_of t) (sym here ∙ there)))

  later-passes : (w : List ℤ) (u j : ℕ) → u < (sizes_of t).tasks → first_of t u < j → j < first_of t (suc u) → rule11 t w j ≡ true
  unfolding rule11 start_point
  later-passes w u j l past below = rw (lt-ltb j (sizes_of t).points (omega (arith, next-within u l)), later u j l past below)

  -- the first one is tested
  first-tested : (w : List ℤ) (u : ℕ) → u < (sizes_of t).tasks → rule11 t w (first_of t u) ≡ Tested t w (first_of t u)
  unfolding rule11 start_point
  first-tested w u l =
      let first = one-some_below (λ k. eqb (first_of t k) (first_of t u)) (sizes_of t).tasks u l (eq-eqb (first_of t u) (first_of t u) refl) in
      rw (lt-ltb (first_of t u) (sizes_of t).points (omega (arith, table.share u l, next-within u l)), first)

-- ---- the loop over the tasks
pub record Started (p : Proposal) (u first : ℕ) : Type 0 where
  pub within : u ≤ (sizes_of p.table.words.now).tasks
  pub first_is : first ≡ first_of p.table.words.now u
  pub searched : Sought (rule11 p.table.words.now p.words.now) 0 (sizes_of p.table.words.now).points first

pub start : (p : Proposal) → Started p 0 0
unfolding first_of first_in
start p = record { within = omega arith; first_is = refl; searched = seek }

module _ {p : Proposal} {u first : ℕ} (s : Started p u first) (l : u < p.table.sizes.tasks) where
  table : Passes p.table.words.now
  table = passed_table p.table

  is-task : u < (sizes_of p.table.words.now).tasks
  is-task = rw p.table.cut.sizes at l

  pub start_below : first < (sizes_of p.table.words.now).points
  start_below = omega (arith, s.first_is, table.share u is-task, next-within table u is-task)

  tested : rule11 p.table.words.now p.words.now first ≡ Tested p.table.words.now p.words.now first
  tested = rw s.first_is (first-tested table p.words.now u is-task)

  -- n is the task's share, as it was read
  pub starts : {n : ℕ} → Tested p.table.words.now p.words.now first ≡ true → n ≡ number_at p.table.shares.now u → Started p (u + 1) (first + n)
  unfolding first_of
  starts {n} e f =
      let t = p.table.words.now in
      let next : first + n ≡ first_of t (suc u) =
      rw (f, p.table.cut.shares, s.first_is) (sym (first_more (shares_of t) u) ∙ ap (first_of t) (add-one u)) in
      let here = s.first_is in
      record {
        within = omega (arith, is-task);
        first_is = next ∙ ap (first_of t) (sym (add-one u));
        searched = skips (first + n) s.searched (omega arith)
            (λ j past below.
            ⊎_elim (λ (q : first ≡ j). rw (← q) (tested ∙ e)) (λ lt. later-passes table p.words.now u j is-task (omega arith) (omega arith))
            (eq-or-lt_of_le past));
      }

  pub stops : Tested p.table.words.now p.words.now first ≡ false
      → Some first ≡ first_bad_in (rule11 p.table.words.now p.words.now) (places 0 (sizes_of p.table.words.now).points)
  stops e = sought s.searched start_below (tested ∙ e)

pub started : {p : Proposal} {u first : ℕ} → Started p u first → p.table.sizes.tasks ≤ u
    → None ≡ first_bad_in (rule11 p.table.words.now p.words.now) (places 0 (sizes_of p.table.words.now).points)
started {p} {u} s l =
    let t = p.table.words.now in
    let table = passed_table p.table in
    let all : u ≡ (sizes_of t).tasks = omega (arith, s.within, rw p.table.cut.sizes at l) in
    unfound s.searched (omega (arith, s.first_is, ap (first_of t) all, table.sum))
