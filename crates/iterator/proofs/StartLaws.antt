-- The state that the passes start from.
-- Assumes nothing.
use Rattle.std.proofs.Common.{◌≡◌, ℕ, zero, suc, ◌+◌, ◌<◌, Bool, true, false, eqb, List, ◌∷◌, ℤ, pos, length, set, map, take, replicate, refl, sym, ap, ◌∙◌, add-one, arith}
use Rattle.std.proofs.lemmas.List.{take_more_set, take-replicate, map-set, length-map}
use Rattle.std.specs.Prelude.{Option, None, Some}
use Rattle.std.specs.Option.{option_map}
use Rattle.std.specs.Bool.{then_some}
use borrow.Author.Tests.{eqb-true, lt-ltb}
use Rattle.words.specs.Words.{word_of, part_of}
use Rattle.words.specs.Stages.{passed}
use Rattle.words.specs.Tabulate.{tabulate}
use Rattle.words.proofs.PartLaws.{part_length}
use Rattle.table.specs.Layout.{sizes_of, starts_of, first_of, task_of}
use Rattle.table.specs.Validate.{validate_of}
use Rattle.table.specs.Passes.{Passes}
use Rattle.table.proofs.PassLaws.{passes}
use Rattle.analysis.specs.declared.Row.{Row}
use Rattle.analysis.specs.Rows.{row_of, slots_of, own_of}
use Rattle.analysis.proofs.RowLaws.{slots-within}
use Rattle.rules.proofs.SomeLaws.{only-some_below}
use Rattle.proposer.specs.Widen.{trimmed_of}
use Rattle.proposer.specs.Passes.{begins, start_if, start_of}
use Rattle.iterator.specs.Arrays.{places_by, one_of, entries_in}
use Rattle.iterator.proofs.TabulateLaws.{tabulate-list}
use Rattle.words.proofs.FillLaws.{tabulate-same}

-- the point at which its task starts is the first of the task that owns it
pub first_begins : (t : List ℤ) → validate_of t ≡ passed → (k : ℕ) → k < (sizes_of t).points → eqb (first_of t (task_of t k)) k ≡ begins t k
first_begins t e k l =
    let table = passes t e in
    let own = table.owned k l in
    rw (lt-ltb k (sizes_of t).points l)
    (only-some_below (λ u. eqb (first_of t u) k) (sizes_of t).tasks (task_of t k) own.task (λ u lu q.
    let first : first_of t u ≡ k = eqb-true _ _ q in
    sym (table.owner u k lu (omega arith) (omega (arith, table.share u lu)))))

-- the starting values in sixteen slots: each variable has one
starts-front : (t : List ℤ) → Passes t → tabulate (word_of (slots_of (starts_of t))) (sizes_of t).variables ≡ starts_of t
unfolding starts_of
starts-front t table =
    let n = (sizes_of t).variables in
    let starts = part_of t (5 + (sizes_of t).tasks) n in
    tabulate-same (word_of (slots_of starts)) (word_of starts) n (λ v l. slots-within starts v (omega (arith, table.variables.high)))
    ∙ tabulate-list starts n (pos 0) (part_length t (5 + (sizes_of t).tasks) n (omega (arith, table.whole)))

starts-row : (t : List ℤ) → validate_of t ≡ passed → trimmed_of (sizes_of t).variables (own_of (row_of (starts_of t) (starts_of t))) ≡ row_of (starts_of t) (starts_of t)
unfolding trimmed_of
starts-row t e = rw (starts-front t (passes t e)) refl

pub starts-if : (t : List ℤ) → validate_of t ≡ passed → (b : Bool)
    → option_map (trimmed_of (sizes_of t).variables) (then_some b (own_of (row_of (starts_of t) (starts_of t)))) ≡ start_if b t
unfolding start_if
starts-if t e true = ap Some (starts-row t e)
starts-if t e false = refl

-- ---- the loop over places: those before k are as they begin
module _ (t : List ℤ) where
  abbrev pub Begun : ℕ → List (Option Row) → Type 0
  Begun k at = take k (map (option_map (trimmed_of (sizes_of t).variables)) at) ≡ tabulate (λ j. start_if (begins t j) t) k

  pub begun_more : (k : ℕ) (at : List (Option Row)) (x : Option Row) → Begun k at → k < length at
      → option_map (trimmed_of (sizes_of t).variables) x ≡ start_if (begins t k) t → Begun (k + 1) (set at k x)
  unfolding tabulate
  begun_more k at x s l e =
      let f : Option Row → Option Row = λ m. option_map (trimmed_of (sizes_of t).variables) m in
      rw (map-set f at k x)
      (take_more_set (map f at) k (f x) (simp length-map l) ∙ rw (s, e, add-one) refl)

  pub begun_whole : (k : ℕ) (at : List (Option Row)) (moved : Bool) → Begun k at → k ≡ (sizes_of t).points + (sizes_of t).mutexes → moved ≡ false
      → places_by (trimmed_of (sizes_of t).variables) ((sizes_of t).points + (sizes_of t).mutexes) at moved ≡ (start_of t).rows
  unfolding places_by start_of
  begun_whole k at moved s e still = rw (still, ← e, s) refl

  map-none : {A : Type 0} (f : A → Row) (m : ℕ) → map (option_map f) (replicate m None) ≡ replicate m None
  map-none f zero = refl
  map-none f (suc m) = ap (λ (l : List (Option Row)). None ∷ l) (map-none f m)

  -- no entry is there
  pub entries_start : validate_of t ≡ passed → entries_in t (record { at = replicate 256 None; moved = false }) ≡ (start_of t).entries
  unfolding places_by start_of
  entries_start e = rw (map-none one_of 256, take-replicate {X = Option Row} (sizes_of t).points 256 None (passes t e).points.high) refl
