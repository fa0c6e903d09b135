-- A state of a run as 48 words, and what a run leaves in its answer slice.
-- Assumes nothing.
use Rattle.std.specs.Prelude.{ℕ, ◌-◌, cond, List, ltb, ℤ, pos, length, get_or, Result}
use Rattle.words.specs.Words.{word_of}
use Rattle.words.specs.Stages.{and_then, stage_of, buffer_by}
use Rattle.words.specs.Tabulate.{tabulate}
use Rattle.words.specs.declared.refusal.Refusal.{Refusal}
use Rattle.checker.specs.Check.{verdict_by}
use Rattle.run.specs.declared.State.{State}
use Rattle.run.specs.Run.{last_of, state_by}
use Rattle.rangecheck_c.specs.Answer.{short_stage, ran_stage}

-- word i of a state: 8 points, 16 values, 8 owners, 8 stop nodes, 8 stop kinds
unfoldable pub slot_of : State → ℕ → ℤ
slot_of s i =
    cond (ltb i 8) (pos (get_or s.points i 0))
    (cond (ltb i 24) (word_of s.values (i - 8))
    (cond (ltb i 32) (word_of s.owners (i - 24))
    (cond (ltb i 40) (word_of s.stop_nodes (i - 32))
    (pos (get_or s.stop_kinds (i - 40) 0)))))

unfoldable pub slots_of : State → List ℤ
slots_of s = tabulate (slot_of s) 48

-- the words of what a run gave
abbrev pub slots_by : Result State Refusal → List ℤ
slots_by played = slots_of (state_by played)

-- what is answered of it, with so many words of room: its refusal, then that of a slice that is shorter than 48 words; no count goes with it
unfoldable pub laid_of : Result State Refusal → ℕ → Result ℕ Refusal
laid_of played room = verdict_by (and_then (stage_of played) (short_stage room)) 0

-- what a run leaves in its answer slice: on any refusal it is as it came, else the last state's words stand at its front
unfoldable pub slice_of : List ℤ → List ℤ → List ℤ → List ℤ
slice_of t ws d = buffer_by (ran_stage t (length d)) (slots_of (last_of t ws)) d
