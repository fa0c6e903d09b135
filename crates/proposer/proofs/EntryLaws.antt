-- The entries that are written: each stands at a slot, which files under its head; each filled slot has one; and there are no more than points.
-- Assumes nothing.
use Prim.Native.Nat.{ℕ, ◌+◌, ◌*◌, ◌/◌, ◌%◌, ◌<◌, ◌≤◌}
use mathlib.Core.Path.{◌≡◌, refl, sym, ap, ◌∙◌}
use mathlib.Core.Bool.{Bool, true}
use mathlib.Core.List.{List}
use native.Mathlib.Omega.{arith}
use lib.IntN.{ℤ}
use lib.ListN.{length, get_or}
use Rattle.words.specs.Words.{word_of, number_of}
use Rattle.words.proofs.Bools.{clash}
use Rattle.table.specs.Layout.{sizes_of, points_of, task_of}
use Rattle.table.specs.Decode.{point_of}
use Rattle.table.specs.Passes.{Passes}
use Rattle.analysis.specs.declared.Row.{Row}
use Rattle.rules.specs.Proposal.{entries_of, head_of, entry_low, entry_high}
use Rattle.proposer.specs.Laws.{Words}
use Rattle.proposer.specs.Walk.{sets_of, Brings}
use Rattle.proposer.specs.Widen.{place_in}
use Rattle.proposer.specs.Passes.{State, row_in, files_at, slot_of, written_to}
use Rattle.proposer.specs.Propose.{entry_by, is_some, entry_under, codes_of, span_of, row_out, words_of}
use Rattle.proposer.proofs.ThoseLaws.{those-length, those-in, those-has, pigeons}
use Rattle.proposer.proofs.WordLaws.{entries-is, head-is, entry-low, entry-high}
use Rattle.proposer.proofs.CodeLaws.{pair_left, pair-right}
use Rattle.proposer.proofs.SlotLaws.{variable-below, codes, head_code, files-head, slot-below, slot-files, slot-code}
use Rattle.proposer.proofs.PassLaws.{Inv, row_sized}
use Rattle.std.specs.Prelude.{Option, None, Some}

module _ (t : List ℤ) (h : ℕ → ℕ) (s : State) where
  -- ---- the entry that a head has
  pub record Under (c : ℕ) : Type 0 where
    pub slot : ℕ
    pub at : slot_of t h c ≡ Some slot
    pub row : Row
    pub is : place_in s.entries slot ≡ Some row
    pub span : span_of t h s c ≡ row

  pub under : (c : ℕ) → is_some (entry_under t h s c) ≡ true → Under c
  unfolding is_some entry_by row_in
  under c e = by (slot_of t h c) refl e
    where
      inner : (q : ℕ) → slot_of t h c ≡ Some q → (m : Option Row) → place_in s.entries q ≡ m → is_some m ≡ true → Under c
      inner q z None k f = clash (sym f)
      inner q z (Some r) k f = record { slot = q; at = z; row = r; is = k; span = rw (z, k) refl }

      by : (f : Option ℕ) → slot_of t h c ≡ f → is_some (entry_by s f) ≡ true → Under c
      by None z f = clash (sym f)
      by (Some q) z f = inner q z (place_in s.entries q) refl f

  pub filled : (c q : ℕ) (r : Row) → slot_of t h c ≡ Some q → place_in s.entries q ≡ Some r → is_some (entry_under t h s c) ≡ true
  unfolding is_some entry_by
  filled c q r z k = rw (z, k) refl

  -- ---- no more heads with an entry than points: each has a slot of its own
  pub codes-few : length (codes_of t h s) ≤ (sizes_of t).points
  unfolding codes_of
  codes-few =
      omega (
        arith,
        those-length (λ c. is_some (entry_under t h s c)) (codes t),
        pigeons (λ c. is_some (entry_under t h s c)) (files_at t h) (codes t) (sizes_of t).points
            (λ c e. let u = under c e in (u.slot, slot-below t h c u.slot u.at, slot-files t h c u.slot u.at))
            (λ c d q e f. sym (files-head t h c q e) ∙ files-head t h d q f),
      )

module _ (t ts : List ℤ) (h : ℕ → ℕ) (on : ℕ → Bool) (passes : Passes t) (words : Words t) (brings : Brings t h on) where
  -- ---- the head of a point
  pub code-variable : (q : ℕ) → q < (sizes_of t).points → head_code t h q % (sizes_of t).variables ≡ written_to (point_of (points_of t) q)
  code-variable q l = pair-right _ _ (sizes_of t).variables (variable-below t passes q l)

  code-front : (q : ℕ) → q < (sizes_of t).points → head_code t h q / (sizes_of t).variables ≡ task_of t q * sets_of t + h q
  code-front q l = pair_left _ _ (sizes_of t).variables (variable-below t passes q l)

  pub code-set : (q : ℕ) → q < (sizes_of t).points → head_code t h q / (sizes_of t).variables % sets_of t ≡ h q
  code-set q l = ap (λ (x : ℕ). x % sets_of t) (code-front q l) ∙ pair-right (task_of t q) (h q) (sets_of t) (brings.set q)

  pub code-task : (q : ℕ) → q < (sizes_of t).points → head_code t h q / (sizes_of t).variables / sets_of t ≡ task_of t q
  code-task q l = ap (λ (x : ℕ). x / sets_of t) (code-front q l) ∙ pair_left (task_of t q) (h q) (sets_of t) (brings.set q)

  module _ (s : State) (inv : Inv t ts h on s) where
    pub low_fits : (k : ℕ) → k < (sizes_of t).points + (sizes_of t).mutexes → length (row_out t h s k).lows ≡ (sizes_of t).variables
    low_fits k l = (row_sized t ts h on s k inv).lows

    pub high_fits : (k : ℕ) → k < (sizes_of t).points + (sizes_of t).mutexes → length (row_out t h s k).highs ≡ (sizes_of t).variables
    high_fits k l = (row_sized t ts h on s k inv).highs

    -- ---- the entry i
    pub record EntryAt (i : ℕ) : Type 0 where
      pub slot : ℕ
      pub below : slot < (sizes_of t).points
      pub row : Row
      pub is : place_in s.entries slot ≡ Some row
      pub task : head_of t (words_of t h s) i 0 ≡ task_of t slot
      pub set : head_of t (words_of t h s) i 1 ≡ h slot
      pub variable : head_of t (words_of t h s) i 2 ≡ written_to (point_of (points_of t) slot)
      pub low : entry_low t (words_of t h s) i ≡ word_of row.lows 0
      pub high : entry_high t (words_of t h s) i ≡ word_of row.highs 0

    pub entry_at : (i : ℕ) → i < entries_of (words_of t h s) → EntryAt i
    unfolding codes_of number_of
    entry_at i l =
        let li : i < length (codes_of t h s) = omega (arith, entries-is t h s) in
        let c = get_or (codes_of t h s) i 0 in
        let u = under t h s c (those-in (λ c. is_some (entry_under t h s c)) (codes t) i li).holds in
        let below = slot-below t h c u.slot u.at in
        let code : head_code t h u.slot ≡ c = slot-code t h c u.slot u.at in
        record {
          slot = u.slot;
          below = below;
          row = u.row;
          is = u.is;
          task = head-is t h s i 0 li (omega arith) ∙ ap (λ (x : ℕ). x / (sizes_of t).variables / sets_of t) (sym code) ∙ code-task u.slot below;
          set = head-is t h s i 1 li (omega arith) ∙ ap (λ (x : ℕ). x / (sizes_of t).variables % sets_of t) (sym code) ∙ code-set u.slot below;
          variable = head-is t h s i 2 li (omega arith) ∙ ap (λ (x : ℕ). x % (sizes_of t).variables) (sym code) ∙ code-variable u.slot below;
          low = entry-low t h s low_fits high_fits i li ∙ ap (λ (r : Row). word_of r.lows 0) u.span;
          high = entry-high t h s low_fits high_fits i li ∙ ap (λ (r : Row). word_of r.highs 0) u.span;
        }

    -- ---- the entry of a slot that is filled
    pub record EntryFor (c : ℕ) (r : Row) : Type 0 where
      pub index : ℕ
      pub below : index < entries_of (words_of t h s)
      pub task : head_of t (words_of t h s) index 0 ≡ c / (sizes_of t).variables / sets_of t
      pub set : head_of t (words_of t h s) index 1 ≡ c / (sizes_of t).variables % sets_of t
      pub variable : head_of t (words_of t h s) index 2 ≡ c % (sizes_of t).variables
      pub low : entry_low t (words_of t h s) index ≡ word_of r.lows 0
      pub high : entry_high t (words_of t h s) index ≡ word_of r.highs 0

    pub entry-for : (c q : ℕ) (r : Row) → c < codes t → slot_of t h c ≡ Some q → place_in s.entries q ≡ Some r → EntryFor c r
    unfolding codes_of number_of entry_by row_in
    entry-for c q r l z k =
        let f = those-has (λ c. is_some (entry_under t h s c)) (codes t) c l (filled t h s c q r z k) in
        let span : span_of t h s (get_or (codes_of t h s) f.0 0) ≡ r = ap (λ (x : ℕ). span_of t h s x) f.2 ∙ rw (z, k) refl in
        record {
          index = f.0;
          below = omega (arith, entries-is t h s, f.1);
          task = head-is t h s f.0 0 f.1 (omega arith) ∙ ap (λ (x : ℕ). x / (sizes_of t).variables / sets_of t) f.2;
          set = head-is t h s f.0 1 f.1 (omega arith) ∙ ap (λ (x : ℕ). x / (sizes_of t).variables % sets_of t) f.2;
          variable = head-is t h s f.0 2 f.1 (omega arith) ∙ ap (λ (x : ℕ). x % (sizes_of t).variables) f.2;
          low = entry-low t h s low_fits high_fits f.0 f.1 ∙ ap (λ (r : Row). word_of r.lows 0) span;
          high = entry-high t h s low_fits high_fits f.0 f.1 ∙ ap (λ (r : Row). word_of r.highs 0) span;
        }

    -- ---- no more entries than points
    pub entries-few : entries_of (words_of t h s) ≤ (sizes_of t).points
    entries-few = omega (arith, entries-is t h s, codes-few t h s)
