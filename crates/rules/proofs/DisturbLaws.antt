-- Refusal 15 by its tests, and by the hull of the entries.
-- Assumes nothing.
use Prim.Native.Nat.{ℕ, ◌+◌, ◌<◌}
use mathlib.Core.Path.{◌≡◌, refl, sym, ◌∙◌}
use mathlib.Core.Bool.{Bool, true, false, ◌&&◌}
use mathlib.Core.List.{List}
use borrow.Author.Count.{below_more}
use borrow.Author.Tests.{eqb-false}
use lib.Dec.{eqb}
use lib.IntN.{ℤ, pos}
use lib.ListN.{length, set}
use lib.Seq.{get_or-set_same}
use lib.Signed.{le_z, ◌≤ℤ◌, ≤ℤ_refl}
use Rattle.words.specs.Words.{word_of}
use Rattle.words.specs.First.{all_below}
use Rattle.words.proofs.FirstLaws.{each-all_below, all_below-each}
use Rattle.words.proofs.Bools.{and_left, and_right}
use Rattle.interval.proofs.IntegerLaws.{≤_trans, le_z-yes', min-left, min-right, max-left, max-right}
use Rattle.interval.proofs.LatticeLaws.{from_to-mono}
use Rattle.table.specs.Layout.{task_of}
use Rattle.analysis.specs.declared.Row.{Row}
use Rattle.analysis.specs.declared.Ends.{Ends}
use Rattle.analysis.specs.Rows.{row_of, seen}
use Rattle.analysis.proofs.RowLaws.{set_all}
use Rattle.rules.specs.Proposal.{entries_of, held_of, reached_of, head_of, row_at, entry_low, entry_high}
use Rattle.rules.specs.Rules.{implies, takes, disturbs, undisturbed, rule15}
use Rattle.rules.specs.Ready.{Whole, Around, holds_hull}
use Rattle.rules.specs.declared.checked.Checked.{Checked}
use Rattle.rules.proofs.PartsLaws.{head-variable}
use Rattle.rules.proofs.CheckedLaws.{ready_of}
use Rattle.rules.proofs.RowLaws.{ends-within}
use Rattle.std.specs.Int.{int_min, int_max}

-- ---- an entry i leaves a task u with the held set s and the row r alone: it is of that task, or its set meets s, or it is within the row
abbrev pub leaves : List ℤ → List ℤ → ℕ → ℕ → Row → ℕ → Bool
leaves t w u s r i = implies (disturbs t w u s i) (takes t w r i)

implies_true : (b : Bool) → implies b true ≡ true
implies_true true = refl
implies_true false = refl

-- ---- at a point p: it isn't reached, or each entry leaves it alone
module _ (t w : List ℤ) (p : ℕ) where
  pub not-reached : reached_of w p ≡ false → rule15 t w p ≡ true
  unfolding rule15
  not-reached e = rw e

  -- u, s and r are what the code has for the point's task, its held set and its row
  pub reached : {b : Bool} {u s : ℕ} {r : Row} → reached_of w p ≡ true → u ≡ task_of t p → s ≡ held_of w p → r ≡ row_at t w p
      → all_below (leaves t w u s r) (entries_of w) ≡ b → rule15 t w p ≡ b
  unfolding rule15 undisturbed
  reached e task set row q = rw e (rw (task, set, row) at q)

-- whether the row's interval holds an entry's, whose ends are in order, is seen by the ends
pub taken_is : (t w : List ℤ) (r : Row) (i : ℕ) → le_z (entry_low t w i) (entry_high t w i) ≡ true
    → takes t w r i ≡ le_z (word_of r.lows (head_of t w i 2)) (entry_low t w i) && le_z (entry_high t w i) (word_of r.highs (head_of t w i 2))
unfolding takes
taken_is t w r i e = sym (ends-within (entry_low t w i) (entry_high t w i) (word_of r.lows (head_of t w i 2)) (word_of r.highs (head_of t w i 2)) e)

-- ---- the hull of the entries
-- entry i is of another task than u
abbrev Other : List ℤ → List ℤ → ℕ → ℕ → Type 0
Other t w u i = head_of t w i 0 ≡ u → ⊥

-- one end of each interval, where R says that an end isn't further in than another: for entry n, x is put in the place of the end of its variable v
module _ (R : ℤ → ℤ → Type 0) (same : (a : ℤ) → R a a) (via : (a b c : ℤ) → R a b → R b c → R a c) (t w l : List ℤ) (ends : ℕ → ℤ) {u v n : ℕ} where
  outer-next : (x : ℤ) → v ≡ head_of t w n 2 → v < length l → R x (word_of l v) → R x (ends n)
      → ((i : ℕ) → i < n → Other t w u i → R (word_of l (head_of t w i 2)) (ends i))
      → (i : ℕ) → i < n + 1 → Other t w u i → R (word_of (set l v x) (head_of t w i 2)) (ends i)
  outer-next x e room inner outer earlier =
      below_more (λ i. Other t w u i → R (word_of (set l v x) (head_of t w i 2)) (ends i)) n
      (λ i lt other. via _ _ _ (set_all (λ u z. R z (word_of l u)) l v x (λ u. same _) inner _) (earlier i lt other))
      (λ other. rw (← e, get_or-set_same l v x (pos 0) room) outer)

module _ {t w : List ℤ} {u n : ℕ} where
  -- around entry n too: one of another task, of the variable v
  pub around-next : (r : Row) {v : ℕ} {low high : ℤ} → v < length r.lows → v < length r.highs → v ≡ head_of t w n 2
      → low ≡ entry_low t w n → high ≡ entry_high t w n
      → Around t w u r n
      → Around t w u (row_of (set r.lows v (int_min (word_of r.lows v) low)) (set r.highs v (int_max (word_of r.highs v) high))) (n + 1)
  around-next r {v} {low} {high} room_low room_high e f g a = record {
    low = outer-next ◌≤ℤ◌ ≤ℤ_refl (λ a b c p q. ≤_trans p q) t w r.lows (entry_low t w) _ e room_low
        (min-left (word_of r.lows v) low) (rw (← f) (min-right (word_of r.lows v) low)) a.low;
    high = outer-next (λ a b. b ≤ℤ a) ≤ℤ_refl (λ a b c p q. ≤_trans q p) t w r.highs (entry_high t w) _ e room_high
        (max-left (word_of r.highs v) high) (rw (← g) (max-right (word_of r.highs v) high)) a.high;
  }

-- a row that holds the hull's interval of each variable holds that of each entry of another task
module _ (all : Checked) (row : Ends) {hull : Row} {u : ℕ} (whole : Whole all.proposal.table.words.now row.lows.now row.highs.now)
    (a : Around all.proposal.table.words.now all.proposal.words.now u hull (entries_of all.proposal.words.now))
    (held : all_below (holds_hull hull (seen row)) (length row.lows.now) ≡ true) where
  held-takes : (i : ℕ) → i < entries_of all.proposal.words.now → Other all.proposal.table.words.now all.proposal.words.now u i
      → takes all.proposal.table.words.now all.proposal.words.now (seen row) i ≡ true
  unfolding takes
  held-takes i l other =
      let v = head_of all.proposal.table.words.now all.proposal.words.now i 2 in
      let below = head-variable (ready_of all) i l in
      let here = all_below-each (holds_hull hull (seen row)) (length row.lows.now) held v (rw whole.low below) in
      let low = le_z-yes' (word_of row.lows.now v) (word_of hull.lows v) (and_left _ _ here) in
      let high = le_z-yes' (word_of hull.highs v) (word_of row.highs.now v) (and_right (le_z (word_of row.lows.now v) (word_of hull.lows v)) _ here) in
      from_to-mono (≤_trans low (a.low i l other)) (≤_trans (a.high i l other) high)

  -- and a point of the task is disturbed by none
  pub hull-held : (p : ℕ) → u ≡ task_of all.proposal.table.words.now p → seen row ≡ row_at all.proposal.table.words.now all.proposal.words.now p
      → rule15 all.proposal.table.words.now all.proposal.words.now p ≡ true
  unfolding rule15 undisturbed disturbs
  hull-held p task is =
      let t = all.proposal.table.words.now in
      let w = all.proposal.words.now in
      rw (each-all_below (undisturbed t w p) (entries_of w) (λ i l. by i l (eqb (head_of t w i 0) (task_of t p)) refl)) (implies_true (reached_of w p))
    where
      by : (i : ℕ) → i < entries_of all.proposal.words.now → (b : Bool)
          → eqb (head_of all.proposal.table.words.now all.proposal.words.now i 0) (task_of all.proposal.table.words.now p) ≡ b
          → undisturbed all.proposal.table.words.now all.proposal.words.now p i ≡ true
      by i l true e = rw e
      by i l false e =
          let t = all.proposal.table.words.now in
          let w = all.proposal.words.now in
          let takes-it = held-takes i l (λ own. eqb-false _ _ e (own ∙ task)) in
          rw (← is, takes-it) (implies_true (disturbs t w (task_of t p) (held_of w p) i))
