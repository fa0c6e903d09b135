-- The verdict of a check, its numbers, and what it leaves in the alarm buffer (document 01, 'Refusals of a check').
-- Assumes nothing.
use Rattle.std.specs.Prelude.{ℕ, ◌/◌, List, leb, ℤ, length, Result, Ok, Err}
use Rattle.words.specs.First.{unless}
use Rattle.words.specs.Stages.{refuse, and_then, Numbers, number_by, numbers_by, buffer_by, Stage, passed}
use Rattle.rules.specs.Examine.{examined_of}
use Rattle.words.specs.declared.refusal.Refusal.{Refusal}
use Rattle.checker.specs.AlarmList.{alarm_words}
use Rattle.words.specs.declared.refusal.Rule.TheVariants.{Room}

-- 17 room: 'alarm buffer shorter than 2 words an alarm', the place being the words needed
unfoldable pub room_stage : List ℤ → List ℤ → ℕ → Stage
room_stage t w room = refuse Room (unless (leb (length (alarm_words t w)) room) (length (alarm_words t w))) passed

-- 1 to 16, then 17
unfoldable pub stages_of : List ℤ → List ℤ → ℕ → Stage
stages_of t w room = and_then (examined_of t w) (room_stage t w room)

-- 'acceptance gives the alarm count'
unfoldable pub verdict_by : Stage → ℕ → Result ℕ Refusal
verdict_by (Ok u) count = Ok count
verdict_by (Err e) count = Err e

unfoldable pub check_of : List ℤ → List ℤ → ℕ → Result ℕ Refusal
check_of t w room = verdict_by (stages_of t w room) (length (alarm_words t w) / 2)

-- acceptance writes the pairs
unfoldable pub buffer_of : List ℤ → List ℤ → List ℤ → List ℤ
buffer_of t w buffer = buffer_by (stages_of t w (length buffer)) (alarm_words t w) buffer

-- document 01's numbers of each case of the answer
unfoldable pub verdict_numbers : Result ℕ Refusal → Numbers
verdict_numbers (Ok count) = record { number = 0; place = 0; count = count }
verdict_numbers (Err e) = record { number = number_by e.rule; place = e.place; count = 0 }

-- and those that the rules give: of the first that is broken, or the alarm count
abbrev pub check_numbers : List ℤ → List ℤ → ℕ → Numbers
check_numbers t w room = numbers_by (stages_of t w room) (length (alarm_words t w) / 2)
