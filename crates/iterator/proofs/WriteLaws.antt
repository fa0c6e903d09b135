-- What is read to be written: the entry under a head, the heads of the entries, their words and ends.
-- Assumes nothing.
use Prim.Native.Nat.{ℕ, zero, suc, ◌+◌, ◌<◌, ◌≤◌}
use mathlib.Core.Path.{◌≡◌, refl, sym, ap, subst, ◌∙◌}
use mathlib.Core.Bool.{Bool, true, false}
use mathlib.Core.List.{List, [], ◌∷◌, map}
use native.Mathlib.Nat.{le_antisymm}
use native.Mathlib.Numerals.{add-one}
use native.Mathlib.Decide.{ℕ_discrete}
use native.Mathlib.Omega.{arith}
use lib.ListN.{length, get_or, set, take, length-append}
use Rattle.std.proofs.lemmas.List.Edits.{take-paste}
use lib.IntN.{ℤ}
use lib.Seq.{take-length}
use Rattle.std.specs.Option.{option_map, is_some as is_there}
use Rattle.interval.specs.declared.Interval.{Interval}
use Rattle.words.specs.Words.{word_of}
use Rattle.words.specs.Tabulate.{tabulate}
use Rattle.words.proofs.FillLaws.{tabulate-front}
use Rattle.table.specs.Layout.{sizes_of}
use Rattle.analysis.specs.declared.Row.{Row}
use Rattle.analysis.specs.Rows.{row_of}
use Rattle.proposer.specs.Fold.{concat_below, those_if, those}
use Rattle.proposer.specs.Widen.{trimmed_of, place_in}
use Rattle.proposer.specs.Passes.{State, row_in, slot_of}
use Rattle.proposer.specs.Propose.{entry_by, is_some, entry_under, codes_of, head_words, row_out, span_of, heads_out}
use Rattle.proposer.proofs.SlotLaws.{slot-below}
use Rattle.proposer.proofs.ThoseLaws.{those-more, those-same, those-in}
use Rattle.proposer.proofs.EntryLaws.{codes-few}
use Rattle.iterator.specs.declared.given.Given.{Given}
use Rattle.iterator.specs.declared.places.State.{State as Kept}
use Rattle.iterator.specs.Arrays.{one_of, rows_by}
use Rattle.iterator.specs.Plan.{code_count}
use Rattle.iterator.specs.Given.{table_of, held_by, state_by}
use Rattle.iterator.specs.declared.write.Side.{Side}
use Rattle.iterator.specs.Write.{Puts, ends_of}
use Rattle.iterator.proofs.TableLaws.{variables_few, points_few}
use Rattle.iterator.proofs.CutLaws.{Slots, trimmed-front}
use Rattle.iterator.proofs.PlaceLaws.{place_is}
use Rattle.iterator.proofs.PutLaws.{puts_none, puts_one, puts_append}
use Rattle.std.specs.Prelude.{Option, None, Some}

-- ---- the entry under the head c, by what the plan has of it
module _ (g : Given) (s : Kept) (c : ℕ) (below : c < code_count (table_of g)) where
  pub entry_none : get_or g.plan.now.heads c None ≡ None → entry_under (table_of g) (held_by g) (state_by g s) c ≡ None
  unfolding entry_by
  entry_none e = rw (sym (g.planned.head c below) ∙ e)

  pub entry_some : (q : ℕ) → get_or g.plan.now.heads c None ≡ Some q
      → entry_under (table_of g) (held_by g) (state_by g s) c ≡ option_map one_of (get_or s.entries.at q None)
  unfolding entry_by
  entry_some q e =
      let found : slot_of (table_of g) (held_by g) c ≡ Some q = sym (g.planned.head c below) ∙ e in
      rw found (place_is one_of (sizes_of (table_of g)).points s.entries.at s.entries.moved q (slot-below (table_of g) (held_by g) c q found))

-- ---- the heads below n whose entry is there
those_rise : (f : ℕ → Bool) (k n : ℕ) → k ≤ n → length (those f k) ≤ length (those f n)
unfolding those concat_below
those_rise f k zero l = let e : k ≡ 0 = omega arith in rw e (omega arith)
those_rise f k (suc n) l = elim (ℕ_discrete k (suc n)) [
  | yes e ↦ rw e (omega arith)
  | no d ↦ omega (arith, those_rise f k n (omega arith), length-append (those f n) (those_if (f n) n))
]

module _ (g : Given) (s : Kept) where
  -- the entry under c is there
  abbrev filled : ℕ → Bool
  filled c = is_some (entry_under (table_of g) (held_by g) (state_by g s) c)

  abbrev pub noted : ℕ → List ℕ
  noted n = those filled n

  module _ (c : ℕ) (x : Option Interval) (is : option_map one_of x ≡ entry_under (table_of g) (held_by g) (state_by g s) c) where
    filled-is : {b : Bool} → b ≡ is_there x → filled c ≡ b
    unfolding is_some
    filled-is {b} e = rw (← is) (by x (sym e))
      where
        by : (x : Option Interval) → is_there x ≡ b → is_some (option_map one_of x) ≡ b
        by None e = e
        by (Some y) e = e

    -- no more entries than points
    pub note_room : {d l : List ℕ} {n k : ℕ} → k ≡ code_count (table_of g) → c < k → true ≡ is_there x → Puts d 0 (noted c) l n → n < 256
    unfolding codes_of
    note_room all l e p =
        omega (
          arith,
          p.next-is,
          ap length (those-more filled c (filled-is e)),
          length-append (noted c) (c ∷ []),
          those_rise filled (suc c) (code_count (table_of g)) (omega arith),
          codes-few (table_of g) (held_by g) (state_by g s),
          points_few (table_of g) g.table.now.checked,
        )

    pub note_some : {d l : List ℕ} {n : ℕ} → n < length l → true ≡ is_there x → Puts d 0 (noted c) l n → Puts d 0 (noted (c + 1)) (set l n c) (n + 1)
    note_some {l = l} {n} room e p = rw (add-one c, those-more filled c (filled-is e)) (puts_append (omega arith) p (puts_one l n c room))

    pub note_none : {d l : List ℕ} {n : ℕ} → false ≡ is_there x → Puts d 0 (noted c) l n → Puts d 0 (noted (c + 1)) l n
    note_none e p = rw (add-one c, those-same filled c (filled-is e)) p

  pub note_start : (d : List ℕ) → Puts d 0 (noted 0) d 0
  unfolding those concat_below
  note_start d = puts_none d 0

  pub note_end : {d l : List ℕ} {n c k : ℕ} → k ≡ code_count (table_of g) → c ≤ k → k ≤ c → Puts d 0 (noted c) l n
      → Puts d 0 (codes_of (table_of g) (held_by g) (state_by g s)) l n
  unfolding codes_of
  note_end {d} {l} {n} all within end p = subst (λ (k : ℕ). Puts d 0 (noted k) l n) (le_antisymm within end ∙ all) p

-- ---- the words of the head i
abbrev pub words_at : (t : List ℤ) (h : ℕ → ℕ) (s : State) → List ℕ → ℕ → List ℤ
words_at t h s heads i = head_words t h s (get_or heads i 0)

pub heads_put : (t : List ℤ) (h : ℕ → ℕ) (s : State) {heads : List ℕ} {d e : List ℤ} {at next : ℕ} → heads ≡ codes_of t h s
    → Puts d at (concat_below (words_at t h s heads) (length heads)) e next → Puts d at (heads_out t h s) e next
heads_put t h s {d = d} {e} {at} {next} is p = subst (λ (l : List ℕ). Puts d at (concat_below (words_at t h s l) (length l)) e next) is p

-- ---- the ends of the row k
abbrev pub ends_at : Given → Kept → Side → ℕ → List ℤ
ends_at g s side k = ends_of side (row_out (table_of g) (held_by g) (state_by g s) k)

-- ---- the heads collected
module _ (g : Given) (s : Kept) {d l : List ℕ} {n : ℕ} (p : Puts d 0 (codes_of (table_of g) (held_by g) (state_by g s)) l n) where
  pub collected : take n l ≡ codes_of (table_of g) (held_by g) (state_by g s)
  collected =
      let codes = codes_of (table_of g) (held_by g) (state_by g s) in
      rw (p.is, p.next-is) (take-paste d 0 codes (length codes) (omega arith) (omega arith) ∙ take-length codes)

  pub few_collected : length (take n l) ≤ (sizes_of (table_of g)).points
  few_collected = rw collected (codes-few (table_of g) (held_by g) (state_by g s))

-- ---- the heads of the entries are heads, and the ends of these are put by index
pub heads_below : (g : Given) (s : Kept) {heads : List ℕ} → heads ≡ codes_of (table_of g) (held_by g) (state_by g s) → (i : ℕ) → i < length heads
    → get_or heads i 0 < code_count (table_of g)
unfolding codes_of
heads_below g s {heads} is i l =
    let one = those-in (filled g s) (code_count (table_of g)) i (subst (λ (m : List ℕ). i < length m) is l) in
    subst (λ (m : List ℕ). get_or m i 0 < code_count (table_of g)) (sym is) one.below

abbrev pub span_at : Given → Kept → Side → ℕ → ℤ
span_at g s side c = word_of (ends_of side (span_of (table_of g) (held_by g) (state_by g s) c)) 0

pub map_tabulate : {A B : Type 0} (f : A → B) (l : List A) (d : A) → map f l ≡ tabulate (λ i. f (get_or l i d)) (length l)
unfolding tabulate
map_tabulate f [] d = refl
map_tabulate f (x ∷ l) d = rw (map_tabulate f l d) (sym (tabulate-front (λ i. f (get_or (x ∷ l) i d)) (length l)))

-- ---- the row at a place, by the first intervals of the row that the code reads there
pub row_front : (g : Given) (s : Kept) (k : ℕ) {r : Row} → k < (sizes_of (table_of g)).points + (sizes_of (table_of g)).mutexes → Slots r
    → ((n c : ℕ) → n ≤ 16 → k < c → trimmed_of n r ≡ row_in n (place_in (rows_by n c s.rows) k))
    → row_out (table_of g) (held_by g) (state_by g s) k
    ≡ row_of (take (sizes_of (table_of g)).variables r.lows) (take (sizes_of (table_of g)).variables r.highs)
row_front g s k {r} below slots is =
    let few = variables_few (table_of g) g.table.now.checked in
    sym (trimmed-front (sizes_of (table_of g)).variables few r slots ∙ is _ _ few below)
