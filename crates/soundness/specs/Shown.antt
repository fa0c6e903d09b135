-- The claim is not empty: a table and a proposal that the check accepts with three alarms, schedules on which a task stops at each of them, and
-- the claim of that table in its own words.
-- Assumes nothing.
use Rattle.std.specs.Prelude.{ℕ, ◌≡◌, List, [], ◌∷◌, ℤ, pos, negsuc, length, replicate, Ok}
use Rattle.words.specs.Words.{word_of}
use Rattle.interval.specs.Interval.{Within, greatest}
use Rattle.checker.specs.Check.{check_of, verdict_numbers}
use Rattle.run.specs.declared.State.{State}
use Rattle.run.specs.State.{point_in}
use Rattle.run.specs.Run.{after, run_of, state_by}
use Rattle.soundness.specs.Safe.{Safe}
use Rattle.soundness.specs.Claim.{list_of}
use Rattle.words.specs.declared.refusal.Rule.TheVariants.{Write}
use Rattle.words.specs.Stages.{broken, refused_as}

-- Two tasks, one variable, two mutexes. Task 0 locks 0 and 1, gives 0 back first, writes the remainder of an input between -5 and 5 by one between 0
-- and 9 while it holds 1 alone, and gives 1 back. Task 1 locks 1, writes MAX + 10 / v, and gives 1 back.
abbrev pub table : List ℤ
table =
    pos 2 ∷ pos 1 ∷ pos 2 ∷ pos 10 ∷ pos 8
    ∷ pos 6 ∷ pos 4
    ∷ pos 0
    -- points 0 to 5: lock 0, lock 1, unlock 0, assign node 2, unlock 1, end
    ∷ pos 3 ∷ pos 0 ∷ pos 1 ∷ pos 0
    ∷ pos 3 ∷ pos 1 ∷ pos 2 ∷ pos 0
    ∷ pos 4 ∷ pos 0 ∷ pos 3 ∷ pos 0
    ∷ pos 1 ∷ pos 0 ∷ pos 2 ∷ pos 4
    ∷ pos 4 ∷ pos 1 ∷ pos 5 ∷ pos 0
    ∷ pos 0 ∷ pos 0 ∷ pos 0 ∷ pos 0
    -- points 6 to 9: lock 1, assign node 7, unlock 1, end
    ∷ pos 3 ∷ pos 1 ∷ pos 7 ∷ pos 0
    ∷ pos 1 ∷ pos 0 ∷ pos 7 ∷ pos 8
    ∷ pos 4 ∷ pos 1 ∷ pos 9 ∷ pos 0
    ∷ pos 0 ∷ pos 0 ∷ pos 0 ∷ pos 0
    -- nodes 0 to 2: two inputs, and the remainder of the first by the second; nodes 3 to 7: MAX, 10, v, 10 / v, MAX + 10 / v
    ∷ pos 1 ∷ negsuc 4 ∷ pos 5 ∷ pos 0
    ∷ pos 1 ∷ pos 0 ∷ pos 9 ∷ pos 0
    ∷ pos 9 ∷ pos 0 ∷ pos 1 ∷ pos 0
    ∷ pos 0 ∷ greatest ∷ pos 0 ∷ pos 0
    ∷ pos 0 ∷ pos 10 ∷ pos 0 ∷ pos 0
    ∷ pos 2 ∷ pos 0 ∷ pos 0 ∷ pos 0
    ∷ pos 7 ∷ pos 4 ∷ pos 5 ∷ pos 0
    ∷ pos 4 ∷ pos 3 ∷ pos 6 ∷ pos 0
    ∷ []

-- MAX - 10
abbrev low : ℤ
low = pos 2147483637

-- its proposal, with the held set of the first entry: task 0's write is filed under mutex 1 alone
abbrev pub proposed : ℤ → List ℤ
proposed held =
    pos 10 ∷ pos 1 ∷ pos 2 ∷ pos 2
    ∷ pos 0 ∷ pos 1 ∷ pos 3 ∷ pos 2 ∷ pos 2 ∷ pos 0 ∷ pos 0 ∷ pos 2 ∷ pos 2 ∷ pos 0
    ∷ pos 0 ∷ held ∷ pos 0
    ∷ pos 1 ∷ pos 2 ∷ pos 0
    -- low ends: points 0 to 5, points 6 to 9, rest rows, entries; high ends
    ∷ pos 0 ∷ pos 0 ∷ pos 0 ∷ pos 0 ∷ negsuc 4 ∷ negsuc 4
    ∷ negsuc 4 ∷ negsuc 4 ∷ low ∷ negsuc 4
    ∷ negsuc 4 ∷ negsuc 4
    ∷ negsuc 4 ∷ low
    ∷ greatest ∷ greatest ∷ greatest ∷ greatest ∷ pos 5 ∷ greatest
    ∷ pos 5 ∷ pos 5 ∷ greatest ∷ greatest
    ∷ greatest ∷ greatest
    ∷ pos 5 ∷ greatest
    ∷ []

abbrev pub proposal : List ℤ
proposal = proposed (pos 2)

abbrev pub buffer : List ℤ
buffer = replicate 8 (pos 0)

-- nodes 2 and 6 can divide by zero, node 7 can overflow
abbrev pub alarms : List ℤ
alarms = pos 2 ∷ pos 2 ∷ pos 6 ∷ pos 2 ∷ pos 7 ∷ pos 1 ∷ []

-- a state of the two tasks' points, the variable, the two owners, and the two tasks' stop nodes and kinds
abbrev pub stopped : ℕ → ℕ → ℤ → ℤ → ℤ → ℤ → ℤ → ℕ → ℕ → State
stopped p q v a b m n j k =
    record {
      points = p ∷ q ∷ 0 ∷ 0 ∷ 0 ∷ 0 ∷ 0 ∷ 0 ∷ [];
      values = v ∷ pos 0 ∷ pos 0 ∷ pos 0 ∷ pos 0 ∷ pos 0 ∷ pos 0 ∷ pos 0 ∷ pos 0 ∷ pos 0 ∷ pos 0 ∷ pos 0 ∷ pos 0 ∷ pos 0 ∷ pos 0 ∷ pos 0 ∷ [];
      owners = a ∷ b ∷ pos 0 ∷ pos 0 ∷ pos 0 ∷ pos 0 ∷ pos 0 ∷ pos 0 ∷ [];
      stop_nodes = m ∷ n ∷ pos 0 ∷ pos 0 ∷ pos 0 ∷ pos 0 ∷ pos 0 ∷ pos 0 ∷ [];
      stop_kinds = j ∷ k ∷ 0 ∷ 0 ∷ 0 ∷ 0 ∷ 0 ∷ 0 ∷ [];
    }

-- task 1 locks 1 and divides by 0; task 0 then takes 0 and waits for 1
abbrev pub dividing : List ℤ
dividing = pos 1 ∷ pos 1 ∷ pos 0 ∷ pos 0 ∷ pos 1 ∷ []

-- task 0 goes through with the inputs 1 and 2; task 1 locks 1 and adds 10 to MAX
abbrev pub overflowing : List ℤ
overflowing = pos 0 ∷ pos 0 ∷ pos 0 ∷ pos 0 ∷ pos 1 ∷ pos 2 ∷ pos 0 ∷ pos 1 ∷ pos 1 ∷ []

-- task 0 takes the inputs 1 and 0; task 1 then waits for 1
abbrev pub remaining : List ℤ
remaining = pos 0 ∷ pos 0 ∷ pos 0 ∷ pos 0 ∷ pos 1 ∷ pos 0 ∷ pos 1 ∷ []

pub record Shown : Type 0 where
  -- the check accepts, with three alarms
  pub accepted : check_of table proposal (length buffer) ≡ Ok 3
  pub listed : list_of table proposal buffer 3 ≡ alarms
  -- 'with only an entry under set 3 it is refused 14': a write filed under a lock already given back
  pub unfiled : check_of table (proposed (pos 3)) (length buffer) ≡ broken Write 3
  pub unfiled-number : verdict_numbers (check_of table (proposed (pos 3)) (length buffer)) ≡ refused_as 14 3
  -- task 1 stops at its quotient, node 6, of kind 2, and at its sum, node 7, of kind 1; task 0 stops at its remainder, node 2, of kind 2; each with its lock
  pub divides : state_by (run_of table dividing) ≡ stopped 1 7 (pos 0) (pos 0) (pos 1) (negsuc 0) (pos 6) 0 2
  pub overflows : state_by (run_of table overflowing) ≡ stopped 5 7 (pos 1) (negsuc 0) (pos 1) (negsuc 0) (pos 7) 0 1
  pub remains : state_by (run_of table remaining) ≡ stopped 3 6 (pos 0) (negsuc 0) (pos 0) (pos 2) (negsuc 0) 2 0
  -- the claim, in every schedule; and what it says of one point: between its write and its unlock, no other task's write reaches task 0
  pub safe : (schedule : List ℤ) (n : ℕ) → Safe table proposal alarms (after table schedule n).state
  pub guarded : (schedule : List ℤ) (n : ℕ) → point_in (after table schedule n).state 0 ≡ 4
      → Within (negsuc 4) (pos 5) (word_of (after table schedule n).state.values 0)
