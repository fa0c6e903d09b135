-- The passes come to an end: within the bound one of them changes nothing.
-- Assumes nothing.
use Prim.Native.Nat.{ℕ, zero, suc, ◌+◌, ◌*◌, ◌<◌, ◌≤◌}
use mathlib.Core.Path.{◌≡◌, refl, sym, ap, subst, ◌∙◌}
use mathlib.Core.Bool.{Bool, true, false}
use mathlib.Core.List.{List}
use mathlib.Core.Logic.{inl, inr}
use native.Mathlib.Nat.{not-suc-le-zero, mul-add, mul_assoc, mul_comm, mul-one, one-mul}
use native.Mathlib.Decide.{dec_lt}
use native.Mathlib.Omega.{arith}
use borrow.Author.Tests.{lt-ltb, le-ltb, eqb-true}
use lib.Dec.{eqb}
use lib.IntN.{ℤ}
use lib.ListN.{length, get_or, replicate, length-replicate, get_or-replicate, get_or-eq_default}
use lib.Signed.{≤ℤ_refl}
use Rattle.words.specs.Words.{word_of}
use Rattle.words.proofs.ListLaws.{at-tabulate}
use Rattle.words.proofs.Bools.{clash, or_left, or_right}
use Rattle.words.proofs.FirstLaws.{some_below-one}
use Rattle.words.proofs.FillLaws.{length-tabulate}
use Rattle.words.proofs.PartLaws.{part_length}
use Rattle.interval.specs.Interval.{least, greatest, Within}
use Rattle.table.specs.Layout.{sizes_of, starts_of, first_of}
use Rattle.table.specs.Passes.{Passes}
use Rattle.analysis.specs.declared.Row.{Row}
use Rattle.analysis.proofs.RowLaws.{tighter-refl}
use Rattle.rules.specs.Rules.{is_first}
use Rattle.proposer.specs.Laws.{Words, after_of, Ended}
use Rattle.proposer.specs.Fold.{fold_below}
use Rattle.proposer.specs.Walk.{Brings}
use Rattle.proposer.specs.Widen.{Places}
use Rattle.proposer.specs.Passes.{State, moved_of, begins, start_if, start_of, quiet, begun, pass_of, Made, made_if, made_from, pass_bound, made_of}
use Rattle.proposer.proofs.ListLaws.{Forward, sum-le, sum-const, sum-tabulate, sum-replicate, sum-split}
use Rattle.proposer.proofs.TakeLaws.{Known, Fine, place_left, left_of, most, row-most, Grows}
use Rattle.proposer.proofs.ValueLaws.{part-words}
use Rattle.proposer.proofs.PassLaws.{start_row, OnPoint, starting, never, Anywhere, Inv, Onward, Still, pass-forward, pass-still}
use Rattle.std.specs.Prelude.{Option, None}

nothing : (pass : State → State) (s : State) → after_of pass s 0 ≡ s
unfolding after_of fold_below
nothing pass s = refl

module _ (t ts : List ℤ) (h : ℕ → ℕ) (on : ℕ → Bool) (passes : Passes t) (words : Words t) (brings : Brings t h on) where
  -- ---- the start
  starts-length : length (starts_of t) ≡ (sizes_of t).variables
  unfolding starts_of
  starts-length = part_length t (5 + (sizes_of t).tasks) (sizes_of t).variables (omega (arith, passes.whole))

  start_word : (v : ℕ) → Within least greatest (word_of (starts_of t) v)
  unfolding starts_of
  start_word v = part-words t (5 + (sizes_of t).tasks) (sizes_of t).variables words.word v

  first_on : (k : ℕ) → is_first t k ≡ true → on k ≡ true
  first_on k e =
      let u = some_below-one (λ u. eqb (first_of t u) k) (sizes_of t).tasks e in
      subst (λ (p : ℕ). on p ≡ true) (eqb-true _ _ u.2) (brings.first_on u.0 u.1)

  begins-on : (k : ℕ) → begins t k ≡ true → OnPoint t on k
  begins-on k e l = first_on k (rw (lt-ltb k (sizes_of t).points l) at e)

  start-known : (k : ℕ) → begins t k ≡ true → Known (sizes_of t).variables ts (starting t) (start_row t) (OnPoint t on) k (start_row t)
  start-known k e =
      record {
        lows = starts-length;
        highs = starts-length;
        proper = record { at = λ v. record { low = (start_word v).low; ordered = ≤ℤ_refl _; high = (start_word v).high } };
        on = begins-on k e;
        begun = λ _. tighter-refl (start_row t);
      }

  start_fine : (k : ℕ) → k < (sizes_of t).points + (sizes_of t).mutexes → Fine (sizes_of t).variables ts (starting t) (start_row t) (OnPoint t on) k (start_if (begins t k) t)
  unfolding start_if
  start_fine k l = by (begins t k) refl
    where
      by : (b : Bool) → begins t k ≡ b → Fine (sizes_of t).variables ts (starting t) (start_row t) (OnPoint t on) k (start_if b t)
      by true e = start-known k e
      by false e = rw (e, lt-ltb k ((sizes_of t).points + (sizes_of t).mutexes) l)

  none-at : (n k : ℕ) → get_or {A = Option Row} (replicate n None) k None ≡ None
  none-at n k = elim (dec_lt k n) [
    | yes l ↦ get_or-replicate {A = Option Row} n k None None l
    | no l ↦ get_or-eq_default {A = Option Row} (replicate n None) None {n = k} (omega (arith, length-replicate {A = Option Row} n None))
  ]

  pub start-inv : Inv t ts h on (start_of t)
  unfolding start_of
  start-inv =
      record {
        rows = record {
          count-is = length-tabulate (λ k. start_if (begins t k) t) ((sizes_of t).points + (sizes_of t).mutexes);
          fine = at-tabulate (Fine (sizes_of t).variables ts (starting t) (start_row t) (OnPoint t on)) (λ k. start_if (begins t k) t) ((sizes_of t).points + (sizes_of t).mutexes) None
              start_fine (λ k l. rw (le-ltb k ((sizes_of t).points + (sizes_of t).mutexes) l));
        };
        entries = record {
          count-is = length-replicate {A = Option Row} (sizes_of t).points None;
          fine = λ k. subst (Fine 1 ts never (start_row t) Anywhere k) (sym (none-at (sizes_of t).points k)) refl;
        };
      }

  pub begun-inv : (s : State) → Inv t ts h on s → Inv t ts h on (begun s)
  begun-inv s i =
      record {
        rows = record { count-is = i.rows.count-is; fine = i.rows.fine };
        entries = record { count-is = i.entries.count-is; fine = i.entries.fine };
      }

  -- ---- how many times an end can still move, or a row or an entry be new
  abbrev pub rows_left : Places → ℕ
  rows_left a = left_of (sizes_of t).variables ts (starting t) (start_row t) (OnPoint t on) a

  abbrev pub entries_left : Places → ℕ
  entries_left a = left_of 1 ts never (start_row t) Anywhere a

  abbrev pub left : State → ℕ
  left s = rows_left s.rows + entries_left s.entries

  -- a pass that changed something leaves fewer
  onward-less : (a b : State) → Onward t ts h on (begun a) b → moved_of b ≡ true → left b < left a
  onward-less a b o m = by o.rows o.entries
    where
      by : Grows (sizes_of t).variables ts (starting t) (start_row t) (OnPoint t on) (quiet a.rows) b.rows
          → Grows 1 ts never (start_row t) Anywhere (quiet a.entries) b.entries → left b < left a
      by (inl e) (inl f) = clash (sym (rw (e, f) at m))
      by (inl e) (inr k) = rw e (omega (arith, k.less))
      by (inr k) (inl f) = rw f (omega (arith, k.less))
      by (inr k) (inr j) = omega (arith, k.less, j.less)

  onward-same : (a b : State) → Onward t ts h on (begun a) b → moved_of b ≡ false → b ≡ begun a
  onward-same a b o m = by o.rows o.entries
    where
      by : Grows (sizes_of t).variables ts (starting t) (start_row t) (OnPoint t on) (quiet a.rows) b.rows
          → Grows 1 ts never (start_row t) Anywhere (quiet a.entries) b.entries → b ≡ begun a
      by (inl e) (inl f) = ap (λ (x : Places). record { rows = x; entries = b.entries }) e ∙ ap (λ (x : Places). record { rows = quiet a.rows; entries = x }) f
      by (inl e) (inr k) = clash (sym (or_right b.rows.moved k.moved) ∙ m)
      by (inr k) f = clash (sym (or_left b.entries.moved k.moved) ∙ m)

  -- ---- the last pass
  pub record Last (m : Made) (bound : ℕ) : Type 0 where
    pub before : State
    pub is : m.state ≡ begun before
    pub inv : Inv t ts h on (begun before)
    pub still : Still t ts h on passes words brings (begun before)
    pub few : m.passes ≤ bound
    -- a further pass changes nothing
    pub again : pass_of t ts h (begun before) ≡ begun before

  pub made-last : (more : ℕ) (s : State) (n : ℕ) → Inv t ts h on s → left s < more → Last (made_from (pass_of t ts h) more s n) (n + more)
  unfolding made_from made_if pass_of
  made-last zero s n i l = absurd (not-suc-le-zero l)
  made-last (suc more) s n i l = by (moved_of (pass_of t ts h s)) refl (λ j k. made-last more (pass_of t ts h s) (suc n) j k)
    where
      forward : Forward (Inv t ts h on) (Onward t ts h on) (begun s) (pass_of t ts h s)
      forward = pass-forward t ts h on passes words brings s (begun-inv s i)

      by : (b : Bool) → moved_of (pass_of t ts h s) ≡ b
          → (Inv t ts h on (pass_of t ts h s) → left (pass_of t ts h s) < more → Last (made_from (pass_of t ts h) more (pass_of t ts h s) (suc n)) (suc n + more))
          → Last (made_if b (made_from (pass_of t ts h) more (pass_of t ts h s) (suc n)) (record { state = pass_of t ts h s; passes = suc n })) (n + suc more)
      by true e again =
          let r = again forward.keeps (omega (arith, onward-less s (pass_of t ts h s) forward.on e)) in
          record { before = r.before; is = r.is; inv = r.inv; still = r.still; few = omega (arith, r.few); again = r.again }
      by false e again =
          let is = onward-same s (pass_of t ts h s) forward.on e in
          record {
            before = s;
            is = is;
            inv = begun-inv s i;
            still = pass-still t ts h on passes words brings s (begun-inv s i) is;
            few = omega arith;
            again = is;
          }

  -- ---- the passes that were made
  after-shift : (s : State) (k : ℕ) → after_of (pass_of t ts h) (pass_of t ts h s) k ≡ after_of (pass_of t ts h) s (suc k)
  unfolding after_of fold_below
  after-shift s zero = refl
  after-shift s (suc k) = ap (λ (x : State). pass_of t ts h x) (after-shift s k)

  -- n passes before s, and the others from s
  record Went (s : State) (n : ℕ) (m : Made) : Type 0 where
    count : ℕ
    passes-are : m.passes ≡ n + count
    ended : Ended (pass_of t ts h) s count m.state

  went : (more : ℕ) (s : State) (n : ℕ) → Inv t ts h on s → left s < more → Went s n (made_from (pass_of t ts h) more s n)
  unfolding made_from made_if
  went zero s n i l = absurd (not-suc-le-zero l)
  went (suc more) s n i l = by (moved_of (pass_of t ts h s)) refl (λ j k. went more (pass_of t ts h s) (suc n) j k)
    where
      forward : Forward (Inv t ts h on) (Onward t ts h on) (begun s) (pass_of t ts h s)
      forward = pass-forward t ts h on passes words brings s (begun-inv s i)

      one : after_of (pass_of t ts h) s 1 ≡ pass_of t ts h s
      one = sym (after-shift s 0) ∙ nothing (pass_of t ts h) (pass_of t ts h s)

      before : (c : ℕ) → moved_of (pass_of t ts h s) ≡ true → ((k : ℕ) → 1 ≤ k → k < c → moved_of (after_of (pass_of t ts h) (pass_of t ts h s) k) ≡ true)
          → (k : ℕ) → 1 ≤ k → k < suc c → moved_of (after_of (pass_of t ts h) s k) ≡ true
      before c e f zero a b = absurd (not-suc-le-zero a)
      before c e f (suc zero) a b = rw one e
      before c e f (suc (suc k)) a b = rw (← after-shift s (suc k)) (f (suc k) (omega arith) (omega arith))

      by : (b : Bool) → moved_of (pass_of t ts h s) ≡ b
          → (Inv t ts h on (pass_of t ts h s) → left (pass_of t ts h s) < more → Went (pass_of t ts h s) (suc n) (made_from (pass_of t ts h) more (pass_of t ts h s) (suc n)))
          → Went s n (made_if b (made_from (pass_of t ts h) more (pass_of t ts h s) (suc n)) (record { state = pass_of t ts h s; passes = suc n }))
      by true e again =
          let r = again forward.keeps (omega (arith, onward-less s (pass_of t ts h s) forward.on e)) in
          let shift = after-shift s r.count in
          record {
            count = suc r.count;
            passes-are = omega (arith, r.passes-are);
            ended = record {
              some = omega arith;
              is = r.ended.is ∙ shift;
              last = rw (← shift) r.ended.last;
              earlier = before r.count e r.ended.earlier;
            };
          }
      by false e again =
          record {
            count = 1;
            passes-are = omega arith;
            ended = record { some = omega arith; is = sym one; last = rw one e; earlier = λ k a b. absurd (omega arith) };
          }

  -- ---- the bound
  start_left : (k : ℕ) → k < (sizes_of t).points
      → place_left (sizes_of t).variables ts (starting t) (start_row t) (OnPoint t on) (start_if (begins t k) t) ≤ 1 + most (sizes_of t).variables ts (starting t) (start_row t) (OnPoint t on)
  unfolding start_if place_left
  start_left k l = by (begins t k)
    where
      by : (b : Bool) → place_left (sizes_of t).variables ts (starting t) (start_row t) (OnPoint t on) (start_if b t) ≤ 1 + most (sizes_of t).variables ts (starting t) (start_row t) (OnPoint t on)
      by true = omega (arith, row-most (sizes_of t).variables ts (starting t) (start_row t) (OnPoint t on) (start_row t))
      by false = omega arith

  rest-left : (k : ℕ) → place_left (sizes_of t).variables ts (starting t) (start_row t) (OnPoint t on) (start_if (begins t ((sizes_of t).points + k)) t)
      ≤ most (sizes_of t).variables ts (starting t) (start_row t) (OnPoint t on)
  unfolding start_if place_left
  rest-left k = rw (le-ltb ((sizes_of t).points + k) (sizes_of t).points (omega arith)) (row-most (sizes_of t).variables ts (starting t) (start_row t) (OnPoint t on) (start_row t))

  rows_few : rows_left (start_of t).rows ≤ (sizes_of t).points * (1 + (sizes_of t).variables * (2 * (length ts + 1))) + (sizes_of t).mutexes * ((sizes_of t).variables * (2 * (length ts + 1)))
  unfolding start_of
  rows_few =
      let f : ℕ → ℕ = λ k. place_left (sizes_of t).variables ts (starting t) (start_row t) (OnPoint t on) (start_if (begins t k) t) in
      let c = (sizes_of t).variables * (2 * (length ts + 1)) in
      omega (
        arith,
        sum-tabulate (place_left (sizes_of t).variables ts (starting t) (start_row t) (OnPoint t on)) (λ k. start_if (begins t k) t) ((sizes_of t).points + (sizes_of t).mutexes),
        sum-split f (sizes_of t).points (sizes_of t).mutexes,
        sum-le f (λ k. 1 + c) (sizes_of t).points start_left,
        sum-const (1 + c) (sizes_of t).points,
        sum-le (λ k. f ((sizes_of t).points + k)) (λ k. c) (sizes_of t).mutexes (λ k _. rest-left k),
        sum-const c (sizes_of t).mutexes,
      )

  entries-few : entries_left (start_of t).entries ≡ (sizes_of t).points * (1 + 1 * (2 * (length ts + 1)))
  unfolding start_of place_left
  entries-few = sum-replicate (place_left 1 ts never (start_row t) Anywhere) (sizes_of t).points None

  products : (p m v k : ℕ) → p * (1 + v * k) + m * (v * k) + p * (1 + 1 * k) ≡ 2 * p + k * (p * v + m * v + p)
  products p m v k =
      omega (
        arith,
        mul-add p 1 (v * k),
        mul-one p,
        mul-add p 1 (1 * k),
        one-mul k,
        mul-add k (p * v + m * v) p,
        mul-add k (p * v) (m * v),
        mul_assoc p v k,
        mul_assoc m v k,
        mul_comm k (p * v),
        mul_comm k (m * v),
        mul_comm k p,
      )

  start-bound : left (start_of t) < pass_bound t ts
  start-bound =
      omega (arith, rows_few, entries-few, products (sizes_of t).points (sizes_of t).mutexes (sizes_of t).variables (2 * (length ts + 1)))

  pub last-pass : Last (made_of t ts h) (pass_bound t ts)
  unfolding made_of
  last-pass =
      let r = made-last (pass_bound t ts) (start_of t) 0 start-inv start-bound in
      record { before = r.before; is = r.is; inv = r.inv; still = r.still; few = omega (arith, r.few); again = r.again }

  pub all-passes : Ended (pass_of t ts h) (start_of t) (made_of t ts h).passes (made_of t ts h).state
  unfolding made_of
  all-passes =
      let r = went (pass_bound t ts) (start_of t) 0 start-inv start-bound in
      let is : r.count ≡ (made_from (pass_of t ts h) (pass_bound t ts) (start_of t) 0).passes = omega (arith, r.passes-are) in
      subst (λ (n : ℕ). Ended (pass_of t ts h) (start_of t) n (made_from (pass_of t ts h) (pass_bound t ts) (start_of t) 0).state) is r.ended
