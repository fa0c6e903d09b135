-- What a proposal that isn't refused is: the laws of the proposer. The function `laws_hold` has them as its contract.
-- Assumes nothing.
use Rattle.std.specs.Prelude.{ℕ, ◌/◌, ◌<◌, ◌≤◌, ◌≡◌, true, false, List, ◌⊎◌, ℤ, length, ◌≤ℤ◌, Ok}
use Rattle.words.specs.Words.{word_of}
use Rattle.interval.specs.Interval.{least, greatest, Within}
use Rattle.table.specs.Layout.{sizes_of, points_of, first_of}
use Rattle.table.specs.Decode.{point_of}
use Rattle.table.specs.Validate.{validate_of}
use Rattle.checker.specs.AlarmList.{alarm_words}
use Rattle.checker.specs.Check.{check_of}
use Rattle.proposer.specs.Fold.{fold_below}
use Rattle.proposer.specs.Walk.{goes_of, Leads, sets_of, walks_of, brought, held_at, rule18}
use Rattle.proposer.specs.Widen.{floor_of, ceil_of, low_to, high_to}
use Rattle.proposer.specs.Passes.{State, moved_of, start_of, pass_bound, pass_of}
use Rattle.proposer.specs.Propose.{words_needed, propose_stage, made_for, proposed_of, propose_of, given_by}
use Rattle.words.specs.Stages.{passed}

-- every word of the list is a word, as in each list that the code is lent
pub record Words (ws : List ℤ) : Type 0 where
  pub word : (i : ℕ) → Within least greatest (word_of ws i)

-- some walk from a first point brings the held set s to the point q
pub data Walk (t : List ℤ) : ℕ → ℕ → Type 0 where
  start : (u : ℕ) → u < (sizes_of t).tasks → Walk t (first_of t u) 0
  further : (p s q r : ℕ) → Walk t p s → Leads (goes_of (point_of (points_of t) p) s) q r → Walk t q r

-- a walk brings s to p, by the marks
pub record Brought (t : List ℤ) (p s : ℕ) : Type 0 where
  pub point : p < (sizes_of t).points
  pub set : s < sets_of t
  pub mark : brought t (walks_of t) p s ≡ true

-- 'two walks bring different held sets' to p
pub record Joined (t : List ℤ) (p : ℕ) : Type 0 where
  pub one : ℕ
  pub other : ℕ
  pub first : Walk t p one
  pub second : Walk t p other
  pub differ : one ≡ other → ⊥

-- `to` is MIN or one of the thresholds, isn't above z, and no threshold lies between the two; and MAX, the same way round
pub record Floor (ts : List ℤ) (z to : ℤ) : Type 0 where
  pub covers : to ≤ℤ z
  pub one : (to ≡ least) ⊎ ((i : ℕ) × (i < length ts) × (to ≡ word_of ts i))
  pub nearest : (i : ℕ) → i < length ts → word_of ts i ≤ℤ z → word_of ts i ≤ℤ to

pub record Ceil (ts : List ℤ) (z to : ℤ) : Type 0 where
  pub covers : z ≤ℤ to
  pub one : (to ≡ greatest) ⊎ ((i : ℕ) × (i < length ts) × (to ≡ word_of ts i))
  pub nearest : (i : ℕ) → i < length ts → z ≤ℤ word_of ts i → to ≤ℤ word_of ts i

-- the state after n passes from s
unfoldable pub after_of : (State → State) → State → ℕ → State
after_of pass s n = fold_below (λ x _. pass x) s n

-- 'the pass that changes nothing is the last': so many passes were made, each but the last changed something, and the state is what they gave
pub record Ended (pass : State → State) (s : State) (passes : ℕ) (state : State) : Type 0 where
  pub some : 1 ≤ passes
  pub is : state ≡ after_of pass s passes
  pub last : moved_of (after_of pass s passes) ≡ false
  pub earlier : (k : ℕ) → 1 ≤ k → k < passes → moved_of (after_of pass s k) ≡ true

pub record Laws : Type 0 where
  -- 'the nearest threshold covering it, or MIN or MAX'
  pub floor-is : (ts : List ℤ) (z : ℤ) → least ≤ℤ z → Floor ts z (floor_of ts (length ts) z)
  pub ceil-is : (ts : List ℤ) (z : ℤ) → z ≤ℤ greatest → Ceil ts z (ceil_of ts (length ts) z)
  -- 'widened by each entry': in any order an end comes to the same place
  pub low-any-order : (ts : List ℤ) (old a b : ℤ) → least ≤ℤ a → least ≤ℤ b → low_to ts (low_to ts old a) b ≡ low_to ts (low_to ts old b) a
  pub high-any-order : (ts : List ℤ) (old a b : ℤ) → a ≤ℤ greatest → b ≤ℤ greatest → high_to ts (high_to ts old a) b ≡ high_to ts (high_to ts old b) a
  -- the marks are the walks, and 18 is broken at a point exactly where two of them bring different sets
  pub walk-brought : (t : List ℤ) → validate_of t ≡ passed → (p s : ℕ) → Walk t p s → Brought t p s
  pub brought-walk : (t : List ℤ) → validate_of t ≡ passed → (p s : ℕ) → Brought t p s → Walk t p s
  pub joined : (t : List ℤ) → validate_of t ≡ passed → (p : ℕ) → p < (sizes_of t).points → rule18 t p ≡ false → Joined t p
  pub one_set : (t : List ℤ) → validate_of t ≡ passed → (p s r : ℕ) → rule18 t p ≡ true → Walk t p s → Walk t p r → s ≡ r
  -- 'the check always accepts them with an ample alarm buffer'
  pub accepted : (t ts : List ℤ) (room alarms : ℕ) → Words t → propose_stage t ts room ≡ passed → length (alarm_words t (proposed_of t ts)) ≤ alarms
      → check_of t (proposed_of t ts) alarms ≡ Ok (length (alarm_words t (proposed_of t ts)) / 2)
  -- the buffer has room for the words, which have at most one entry a point
  pub fits : (t ts : List ℤ) (room : ℕ) → Words t → propose_stage t ts room ≡ passed → length (proposed_of t ts) ≤ words_needed t
  pub room : (t ts : List ℤ) (room : ℕ) → Words t → propose_stage t ts room ≡ passed → length (proposed_of t ts) ≤ room
  -- the passes that are counted, with no bound in sight
  pub ended : (t ts : List ℤ) (room : ℕ) → Words t → propose_stage t ts room ≡ passed → Ended (pass_of t ts (held_at t)) (start_of t) (made_for t ts).passes (made_for t ts).state
  -- 'the passes number at most'; a further pass would change nothing
  pub passes : (t ts : List ℤ) (room : ℕ) → Words t → propose_stage t ts room ≡ passed → (given_by (propose_of t ts room)).passes ≤ pass_bound t ts
  pub settled : (t ts : List ℤ) (room : ℕ) → Words t → propose_stage t ts room ≡ passed → pass_of t ts (held_at t) (made_for t ts).state ≡ (made_for t ts).state
