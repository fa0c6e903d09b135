-- The words that are written pass refusals 7 to 10.
-- Assumes nothing.
use Prim.Native.Nat.{ℕ, zero, suc, ◌+◌, ◌*◌, ◌-◌, ◌/◌, ◌%◌, ◌<◌, ◌≤◌}
use mathlib.Core.Path.{◌≡◌, refl, sym, ap, subst, ◌∙◌}
use mathlib.Core.Bool.{Bool, true, cond, ◌||◌}
use mathlib.Core.List.{List}
use native.Mathlib.Nat.{mod-lt, div-add-mod'}
use native.Mathlib.Decide.{dec_lt}
use native.Mathlib.Omega.{arith}
use borrow.Author.Tests.{lt-ltb, le-ltb, le-leb, eq-eqb}
use lib.Dec.{ltb}
use lib.IntN.{ℤ}
use lib.ListN.{length}
use lib.Pow.{pow_pos}
use lib.Signed.{le_z}
use Rattle.words.specs.Words.{word_of, number_of, number_at}
use Rattle.words.proofs.PartLaws.{part-word}
use Rattle.interval.proofs.IntegerLaws.{le-true}
use Rattle.table.specs.Layout.{sizes_of}
use Rattle.table.specs.Passes.{Passes}
use Rattle.analysis.specs.declared.Row.{Row}
use Rattle.rules.specs.Proposal.{entries_of, rows_of, intervals_of, heads_from, lows_from, held_of, heads_of, head_of, lows_of, highs_of, row_at, entries_at, entry_low, entry_high}
use Rattle.rules.specs.Rules.{minus_one, rule8, is_set, held_in_range, head_in_range, rule9, before_of, rule10}
use Rattle.proposer.specs.Laws.{Words}
use Rattle.proposer.specs.Walk.{sets_of, Brings}
use Rattle.proposer.specs.Widen.{place_in}
use Rattle.proposer.specs.Passes.{State}
use Rattle.proposer.specs.Propose.{held_by, entry_under, is_some, codes_of, words_of}
use Rattle.proposer.proofs.ThoseLaws.{those-rise}
use Rattle.proposer.proofs.WordLaws.{entries-is, size_is, held_word, head-is, row_is}
use Rattle.proposer.proofs.CodeLaws.{left_below, code-above}
use Rattle.proposer.proofs.PassLaws.{Inv, row_sized, entry_known}
use Rattle.proposer.proofs.SlotLaws.{variable-below}
use Rattle.proposer.proofs.EntryLaws.{entry_at, entries-few, low_fits, high_fits}
use Rattle.std.specs.Prelude.{None, Option, Some}

-- a choice of three tests, by which of them holds
first-of : (i a b c : ℕ) (P Q R : Bool) → (i < a → P ≡ true) → (a ≤ i → i < b → Q ≡ true) → (b ≤ i → i < c → R ≡ true) → (S : Bool) → (c ≤ i → S ≡ true)
    → a ≤ b → b ≤ c → cond (ltb i a) P (cond (ltb i b) Q (cond (ltb i c) R S)) ≡ true
first-of i a b c P Q R p q r S s ab bc = elim (dec_lt i a) [
  | yes l ↦ rw (lt-ltb i a l) (p l)
  | no l ↦ elim (dec_lt i b) [
    | yes m ↦ rw (le-ltb i a (omega arith), lt-ltb i b m) (q (omega arith) m)
    | no m ↦ elim (dec_lt i c) [
      | yes n ↦ rw (le-ltb i a (omega arith), le-ltb i b (omega arith), lt-ltb i c n) (r (omega arith) n)
      | no n ↦ rw (le-ltb i a (omega arith), le-ltb i b (omega arith), le-ltb i c (omega arith)) (s (omega arith))
    ]
  ]
]

module _ (t ts : List ℤ) (h : ℕ → ℕ) (on : ℕ → Bool) (passes : Passes t) (words : Words t) (brings : Brings t h on) (s : State) (inv : Inv t ts h on s) where
  -- ---- 8
  pub size_ok : (k : ℕ) → k < 4 → rule8 t (words_of t h s) k ≡ true
  unfolding rule8
  size_ok zero l = eq-eqb _ _ (size_is t h s).0
  size_ok (suc zero) l = eq-eqb _ _ (size_is t h s).1
  size_ok (suc (suc zero)) l = eq-eqb _ _ (size_is t h s).2
  size_ok (suc (suc (suc k))) l = le-leb (entries_of (words_of t h s)) 512 (omega (arith, entries-few t ts h on passes words brings s inv, passes.points.high))

  -- ---- 9
  held-ok : (p : ℕ) → p < (sizes_of t).points → held_in_range t (words_of t h s) p ≡ true
  unfolding held_in_range held_of held_by number_of
  held-ok p l = rw (held_word t h s p l) (by (place_in s.rows p))
    where
      by : (m : Option Row) → minus_one (held_by m (h p)) || is_set t (number_of (held_by m (h p))) ≡ true
      by None = refl
      by (Some r) = lt-ltb _ _ (brings.set p)

  head_ok : (e j : ℕ) → e < entries_of (words_of t h s) → j < 3 → head_in_range t j (head_of t (words_of t h s) e j) ≡ true
  unfolding head_in_range
  head_ok e zero l lj =
      let x = entry_at t ts h on passes words brings s inv e l in
      lt-ltb _ _ (subst (λ (n : ℕ). n < (sizes_of t).tasks) (sym x.task) (passes.owned x.slot x.below).task)
  head_ok e (suc zero) l lj =
      let x = entry_at t ts h on passes words brings s inv e l in
      lt-ltb _ _ (subst (λ (n : ℕ). n < sets_of t) (sym x.set) (brings.set x.slot))
  head_ok e (suc (suc zero)) l lj =
      let x = entry_at t ts h on passes words brings s inv e l in
      lt-ltb _ _ (subst (λ (n : ℕ). n < (sizes_of t).variables) (sym x.variable) (variable-below t passes x.slot x.below))
  head_ok e (suc (suc (suc j))) l lj = absurd (omega arith)

  -- the word k of the heads is a field of an entry
  heads-ok : (k : ℕ) → k < 3 * entries_of (words_of t h s) → head_in_range t (k % 3) (number_at (words_of t h s) (heads_from t + k)) ≡ true
  unfolding head_of heads_of
  heads-ok k l =
      let q : 3 * (k / 3) + k % 3 ≡ k = omega arith in
      let word : number_at (words_of t h s) (heads_from t + k) ≡ head_of t (words_of t h s) (k / 3) (k % 3) =
      ap number_of (sym (part-word (words_of t h s) (heads_from t) (3 * entries_of (words_of t h s)) k l) ∙ ap (λ (x : ℕ). word_of (heads_of t (words_of t h s)) x) (sym q)) in
      rw word (head_ok (k / 3) (k % 3) (omega arith) (omega arith))

  row_ok : (k v : ℕ) → k < rows_of t → v < (sizes_of t).variables
      → le_z (word_of (lows_of t (words_of t h s)) (k * (sizes_of t).variables + v)) (word_of (highs_of t (words_of t h s)) (k * (sizes_of t).variables + v)) ≡ true
  unfolding row_at
  row_ok k v lk lv =
      let is = row_is t h s (low_fits t ts h on passes words brings s inv) (high_fits t ts h on passes words brings s inv) k lk in
      let lo = sym (part-word (lows_of t (words_of t h s)) (k * (sizes_of t).variables) (sizes_of t).variables v lv) ∙ ap (λ (r : Row). word_of r.lows v) is in
      let hi = sym (part-word (highs_of t (words_of t h s)) (k * (sizes_of t).variables) (sizes_of t).variables v lv) ∙ ap (λ (r : Row). word_of r.highs v) is in
      rw (lo, hi) (le-true ((row_sized t ts h on s k inv).proper.at v).ordered)

  entry-ok : (e : ℕ) → e < entries_of (words_of t h s)
      → le_z (word_of (lows_of t (words_of t h s)) (rows_of t * (sizes_of t).variables + e)) (word_of (highs_of t (words_of t h s)) (rows_of t * (sizes_of t).variables + e)) ≡ true
  unfolding entry_low entry_high entries_at
  entry-ok e l =
      let x = entry_at t ts h on passes words brings s inv e l in
      let lo = sym (part-word (lows_of t (words_of t h s)) (rows_of t * (sizes_of t).variables) (entries_of (words_of t h s)) e l) ∙ x.low in
      let hi = sym (part-word (highs_of t (words_of t h s)) (rows_of t * (sizes_of t).variables) (entries_of (words_of t h s)) e l) ∙ x.high in
      rw (lo, hi) (le-true ((entry_known t ts h on s x.slot x.row inv x.is).proper.at 0).ordered)

  ends-ok : (j : ℕ) → j < intervals_of t (words_of t h s) → le_z (word_of (lows_of t (words_of t h s)) j) (word_of (highs_of t (words_of t h s)) j) ≡ true
  unfolding intervals_of
  ends-ok j l = elim (dec_lt j (rows_of t * (sizes_of t).variables)) [
    | yes m ↦
        let v = (sizes_of t).variables in
        let q = div-add-mod' j v in
        subst (λ (x : ℕ). le_z (word_of (lows_of t (words_of t h s)) x) (word_of (highs_of t (words_of t h s)) x) ≡ true) q
        (row_ok (j / v) (j % v) (left_below j (rows_of t) v passes.variables.low m) (mod-lt j {m = v} passes.variables.low))
    | no m ↦
        let e = j - rows_of t * (sizes_of t).variables in
        let q : rows_of t * (sizes_of t).variables + e ≡ j = omega arith in
        subst (λ (x : ℕ). le_z (word_of (lows_of t (words_of t h s)) x) (word_of (highs_of t (words_of t h s)) x) ≡ true) q (entry-ok e (omega arith))
  ]

  pub range-ok : (i : ℕ) → i < lows_from t (words_of t h s) + intervals_of t (words_of t h s) → rule9 t (words_of t h s) i ≡ true
  unfolding rule9 lows_from heads_from
  range-ok i l =
      first-of i 4 (heads_from t) (lows_from t (words_of t h s)) true _ _ (λ _. refl)
      (λ a b. held-ok (i - 4) (omega arith))
      (λ a b.
      let k = i - heads_from t in
      let q : heads_from t + k ≡ i = omega arith in
      subst (λ (x : ℕ). head_in_range t (k % 3) (number_at (words_of t h s) x) ≡ true) q (heads-ok k (omega arith)))
      _
      (λ a. ends-ok (i - lows_from t (words_of t h s)) (omega arith))
      (omega arith) (omega arith)

  -- ---- 10
  pub order-ok : (i : ℕ) → i < entries_of (words_of t h s) → rule10 t (words_of t h s) i ≡ true
  unfolding rule10 before_of codes_of number_of
  order-ok zero l = refl
  order-ok (suc i) l =
      let n = entries-is t h s in
      let rise = those-rise (λ c. is_some (entry_under t h s c)) ((sizes_of t).tasks * sets_of t * (sizes_of t).variables) i (omega arith) in
      let here : i < length (codes_of t h s) = omega arith in
      let next : suc i < length (codes_of t h s) = omega arith in
      rw (
        head-is t h s i 0 here (omega arith),
        head-is t h s i 1 here (omega arith),
        head-is t h s i 2 here (omega arith),
        head-is t h s (suc i) 0 next (omega arith),
        head-is t h s (suc i) 1 next (omega arith),
        head-is t h s (suc i) 2 next (omega arith),
      ) (code-above (sizes_of t).variables (sets_of t) _ _ passes.variables.low (pow_pos (sizes_of t).mutexes) rise)
