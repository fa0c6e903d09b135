-- The whole request: refusals in order, the words written and the passes made (document 02, request 4).
-- Assumes nothing.
use Rattle.std.specs.Prelude.{ℕ, zero, suc, ◌+◌, ◌*◌, ◌/◌, ◌%◌, Bool, true, false, ◌&&◌, List, [], ◌∷◌, ◌++◌, map, leb, ltb, ℤ, pos, negsuc, length, get_or, Option, None, Some, Result, Ok, Err}
use Rattle.std.specs.Int.Signed.{lt_z}
use Rattle.words.specs.Words.{word_of}
use Rattle.words.specs.First.{unless, first_bad}
use Rattle.words.specs.Stages.{refuse, and_then, buffer_by, Stage, passed}
use Rattle.words.specs.Tabulate.{tabulate}
use Rattle.table.specs.Layout.{sizes_of}
use Rattle.table.specs.Validate.{validate_of}
use Rattle.analysis.specs.declared.Row.{Row}
use Rattle.words.specs.declared.refusal.Refusal.{Refusal}
use Rattle.proposer.specs.declared.Proposed.{Proposed}
use Rattle.proposer.specs.Fold.{concat_below, those}
use Rattle.proposer.specs.Walk.{sets_of, held_at, rule18}
use Rattle.proposer.specs.Widen.{place_in}
use Rattle.proposer.specs.Passes.{State, row_in, slot_of, Made, made_of}
use Rattle.words.specs.declared.refusal.Rule.TheVariants.{Rise, Space, Walks}

-- ---- the words
-- 'points that no pass reaches are marked -1'
unfoldable pub held_by : Option Row → ℕ → ℤ
held_by None s = negsuc 0
held_by (Some r) s = pos s

-- the entry under the head c
unfoldable pub entry_by : State → Option ℕ → Option Row
entry_by s None = None
entry_by s (Some q) = place_in s.entries q

unfoldable pub is_some : Option Row → Bool
is_some None = false
is_some (Some r) = true

module _ (t : List ℤ) (h : ℕ → ℕ) (s : State) where
  abbrev pub entry_under : ℕ → Option Row
  entry_under c = entry_by s (slot_of t h c)

  -- the heads of the entries, 'by task, set, variable'
  unfoldable pub codes_of : List ℕ
  codes_of = those (λ c. is_some (entry_under c)) ((sizes_of t).tasks * sets_of t * (sizes_of t).variables)

  -- task, held set, variable of the head c
  abbrev pub head_words : ℕ → List ℤ
  head_words c = pos (c / (sizes_of t).variables / sets_of t) ∷ pos (c / (sizes_of t).variables % sets_of t) ∷ pos (c % (sizes_of t).variables) ∷ []

  -- row k, of points and then of mutexes
  abbrev pub row_out : ℕ → Row
  row_out k = row_in (sizes_of t).variables (place_in s.rows k)

  abbrev pub span_of : ℕ → Row
  span_of c = row_in 1 (entry_under c)

  -- 'point rows, mutex rest rows, one for each entry'
  abbrev pub ends_out : (Row → List ℤ) → List ℤ
  ends_out f =
      concat_below (λ k. f (row_out k)) ((sizes_of t).points + (sizes_of t).mutexes) ++ map (λ c. word_of (f (span_of c)) 0) codes_of

  -- 'four sizes: points, variables, mutexes, entries'
  abbrev pub sizes_out : List ℤ
  sizes_out = pos (sizes_of t).points ∷ pos (sizes_of t).variables ∷ pos (sizes_of t).mutexes ∷ pos (length codes_of) ∷ []

  -- 'a held word for each point'
  abbrev pub held_out : List ℤ
  held_out = tabulate (λ p. held_by (place_in s.rows p) (h p)) (sizes_of t).points

  -- 'three words for each entry'
  abbrev pub heads_out : List ℤ
  heads_out = concat_below (λ i. head_words (get_or codes_of i 0)) (length codes_of)

  unfoldable pub words_of : List ℤ
  words_of = sizes_out ++ (held_out ++ (heads_out ++ (ends_out (λ r. r.lows) ++ ends_out (λ r. r.highs))))

-- ---- refusals
-- 19: 'the first threshold that isn't above the one before or comes after the 32nd'
unfoldable pub rule19 : List ℤ → ℕ → Bool
rule19 ts zero = true
rule19 ts (suc i) = ltb (suc i) 32 && lt_z (word_of ts i) (word_of ts (suc i))

-- 20: 'a proposal with one entry a point'
abbrev pub words_needed : List ℤ → ℕ
words_needed t =
    4 + (sizes_of t).points + 3 * (sizes_of t).points
    + 2 * (((sizes_of t).points + (sizes_of t).mutexes) * (sizes_of t).variables + (sizes_of t).points)

-- 'after the table refusals come 19, 20, 18'
unfoldable pub propose_stage : List ℤ → List ℤ → ℕ → Stage
propose_stage t ts room =
    and_then (validate_of t)
    (refuse Rise (first_bad (rule19 ts) (length ts))
    (refuse Space (unless (leb (words_needed t) room) (words_needed t))
    (refuse Walks (first_bad (rule18 t) (sizes_of t).points)
    passed)))

-- ---- the result: 'the words it wrote and the passes it made'
unfoldable pub made_for : List ℤ → List ℤ → Made
made_for t ts = made_of t ts (held_at t)

unfoldable pub proposed_of : List ℤ → List ℤ → List ℤ
proposed_of t ts = words_of t (held_at t) (made_for t ts).state

unfoldable pub propose_by : Stage → List ℤ → ℕ → Result Proposed Refusal
propose_by (Ok u) ws n = Ok (record { words = length ws; passes = n })
propose_by (Err e) ws n = Err e

unfoldable pub propose_of : List ℤ → List ℤ → ℕ → Result Proposed Refusal
propose_of t ts room = propose_by (propose_stage t ts room) (proposed_of t ts) (made_for t ts).passes

-- and what it gives in numbers: 'a refusal gives 0 for every other result'
unfoldable pub given_by : Result Proposed Refusal → Proposed
given_by (Ok r) = r
given_by (Err e) = record { words = 0; passes = 0 }

unfoldable pub buffer_of : List ℤ → List ℤ → List ℤ → List ℤ
buffer_of t ts buffer = buffer_by (propose_stage t ts (length buffer)) (proposed_of t ts) buffer
