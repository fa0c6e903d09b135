-- Refusals in order: a stage is a chain of rules, each with the smallest place at which it is broken. What a stage comes to in document 01's
-- numbers, and what it leaves in a lent buffer.
-- Assumes nothing.
use Rattle.std.specs.Prelude.{ℕ, List, ◌++◌, ℤ, length, drop, Option, None, Some, Result, Ok, Err}
use Rattle.words.specs.declared.refusal.Rule.{Rule}
use Rattle.words.specs.declared.refusal.Rule.TheVariants.{Length, Size, Share, Node, Point, Use, Reach, Match, Range, Order, Start, Locks, Flow, Write, Disturb, Rest, Room, Walks, Rise, Space, Short}
use Rattle.words.specs.declared.refusal.Refusal.{Refusal}

-- what a stage gives: nothing where all its rules held, else the first broken rule with its smallest place
abbrev pub Stage : Type 0
Stage = Result (Unit {0}) Refusal

abbrev pub passed : Stage
passed = Ok tt

abbrev pub broken : {A : Type 0} → Rule → ℕ → Result A Refusal
broken rule place = Err (record { rule = rule; place = place })

-- broken at the place, where there is one; else what the later rules say
unfoldable pub refuse : Rule → Option ℕ → Stage → Stage
refuse rule (Some p) later = broken rule p
refuse rule None later = later

-- one stage, and then the next
unfoldable pub and_then : Stage → Stage → Stage
and_then (Ok u) later = later
and_then (Err e) later = Err e

-- the stage that an answer tells
unfoldable pub stage_of : {A : Type 0} → Result A Refusal → Stage
stage_of (Ok a) = passed
stage_of (Err e) = Err e

-- document 01's number of a rule, and document 02's of 18 to 20
unfoldable pub number_by : Rule → ℕ
number_by Length = 1
number_by Size = 2
number_by Share = 3
number_by Node = 4
number_by Point = 5
number_by Use = 6
number_by Reach = 7
number_by Match = 8
number_by Range = 9
number_by Order = 10
number_by Start = 11
number_by Locks = 12
number_by Flow = 13
number_by Write = 14
number_by Disturb = 15
number_by Rest = 16
number_by Room = 17
number_by Walks = 18
number_by Rise = 19
number_by Space = 20
number_by Short = 31

-- an answer in document 01's numbers: the refusal's number and place, or the count that comes with acceptance; 0 for what isn't given
pub record Numbers : Type 0 where
  pub number : ℕ
  pub place : ℕ
  pub count : ℕ

-- those of a stage, with what is counted where it passed: 'a refusal gives 0 for every other result'
unfoldable pub numbers_by : Stage → ℕ → Numbers
numbers_by (Ok u) count = record { number = 0; place = 0; count = count }
numbers_by (Err e) count = record { number = number_by e.rule; place = e.place; count = 0 }

-- those of a refusal with this number
abbrev pub refused_as : ℕ → ℕ → Numbers
refused_as number place = record { number = number; place = place; count = 0 }

-- those of an answer that counts nothing
abbrev pub stage_numbers : Stage → Numbers
stage_numbers s = numbers_by s 0

-- 'a refusal changes no buffer'; else the words stand at its front, and 'words past a written result keep their contents'
unfoldable pub buffer_by : Stage → List ℤ → List ℤ → List ℤ
buffer_by (Ok u) ws buffer = ws ++ drop (length ws) buffer
buffer_by (Err e) ws buffer = buffer
