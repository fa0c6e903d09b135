-- A whole run: the state after n steps of a schedule, and what `run` gives (document 01, 'The run').
-- Assumes nothing.
use Rattle.std.specs.Prelude.{ℕ, zero, suc, List, ℤ, length, Result, Ok, Err}
use Rattle.words.specs.declared.refusal.Refusal.{Refusal}
use Rattle.words.specs.Stages.{Stage}
use Rattle.table.specs.Validate.{validate_of}
use Rattle.run.specs.declared.State.{State}
use Rattle.run.specs.declared.Stepped.{Stepped}
use Rattle.run.specs.State.{start_of, blank_of}
use Rattle.run.specs.Step.{stepped, step_of}

-- 'the first step gets the starting state, each later one what the step before gave back'; past the schedule's end nothing changes, so that a
-- state stands after any number of steps
unfoldable pub after : List ℤ → List ℤ → ℕ → Stepped
after t ws zero = stepped (start_of t) 0
after t ws (suc n) = step_of t ws (after t ws n).state (after t ws n).at

-- 'plays it all and gives the last state': each step uses up a word at least, so that no step is left after as many as there are words
unfoldable pub last_of : List ℤ → List ℤ → State
last_of t ws = (after t ws (length ws)).state

-- 'refuses by 1 to 6, else plays it all'
unfoldable pub played_by : Stage → State → Result State Refusal
played_by (Ok u) s = Ok s
played_by (Err e) s = Err e

unfoldable pub run_of : List ℤ → List ℤ → Result State Refusal
run_of t ws = played_by (validate_of t) (last_of t ws)

-- the state that an answer tells: 'a refusal gives 0 for every other result'
unfoldable pub state_by : Result State Refusal → State
state_by (Ok s) = s
state_by (Err e) = blank_of

-- the state that is left where the state s was played to, unless the table was refused
unfoldable pub left_by : Stage → State → State
left_by (Ok u) s = s
left_by (Err e) s = blank_of
