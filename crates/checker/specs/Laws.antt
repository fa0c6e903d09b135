-- What acceptance gives, and what the alarm list is. The function `laws_hold` has these laws as its contract.
-- Assumes nothing.
use Rattle.std.specs.Prelude.{ℕ, ◌+◌, ◌*◌, ◌<◌, ◌≤◌, ◌≡◌, Bool, true, false, ◌&&◌, ◌||◌, List, [], ◌∷◌, eqb, ltb, ℤ, length, Ok}
use Rattle.words.specs.Words.{number_of}
use Rattle.table.specs.Layout.{sizes_of}
use Rattle.table.specs.Validate.{validate_of}
use Rattle.analysis.specs.Laws.{IsKind}
use Rattle.rules.specs.Proposal.{entries_of, intervals_of, lows_from, proposal_length}
use Rattle.rules.specs.Rules.{rule8, rule9, rule10, rule11, rule12, rule13, rule14, rule15, rule16}
use Rattle.checker.specs.AlarmList.{raised, alarm_words}
use Rattle.checker.specs.Check.{check_of, verdict_numbers}
use Rattle.words.specs.Stages.{passed, broken, refused_as}
use Rattle.words.specs.declared.refusal.Rule.TheVariants.{Room}

-- ---- acceptance: a field for each rule
pub record Accepts (t w : List ℤ) (room count : ℕ) : Type 0 where
  pub table : validate_of t ≡ passed
  pub whole : length w ≡ proposal_length t w
  pub match : (k : ℕ) → k < 4 → rule8 t w k ≡ true
  pub range : (i : ℕ) → i < lows_from t w + intervals_of t w → rule9 t w i ≡ true
  pub order : (i : ℕ) → i < entries_of w → rule10 t w i ≡ true
  pub start : (place : ℕ) → place < (sizes_of t).points + (sizes_of t).mutexes → rule11 t w place ≡ true
  pub locks : (p : ℕ) → p < (sizes_of t).points → rule12 t w p ≡ true
  pub flow : (p : ℕ) → p < (sizes_of t).points → rule13 t w p ≡ true
  pub write : (p : ℕ) → p < (sizes_of t).points → rule14 t w p ≡ true
  pub disturb : (p : ℕ) → p < (sizes_of t).points → rule15 t w p ≡ true
  pub rest : (place : ℕ) → place < (sizes_of t).points + entries_of w → rule16 t w place ≡ true
  -- the buffer has room for the list, whose count is given
  pub fits : 2 * count ≤ room
  pub listed : length (alarm_words t w) ≡ 2 * count

-- ---- the list's words
-- the pair (n, k) is on it
unfoldable pub on_list : ℕ → ℕ → List ℤ → Bool
on_list n k [] = false
on_list n k (a ∷ []) = false
on_list n k (a ∷ (b ∷ l)) = (eqb (number_of a) n && eqb (number_of b) k) || on_list n k l

-- each pair is above (m, j), and the next above it, by node, then kind
unfoldable pub rising_from : ℕ → ℕ → List ℤ → Bool
rising_from m j [] = true
rising_from m j (a ∷ []) = false
rising_from m j (a ∷ (b ∷ l)) = (ltb m (number_of a) || (eqb m (number_of a) && ltb j (number_of b))) && rising_from (number_of a) (number_of b) l

pub record Laws : Type 0 where
  pub accepted : (t w : List ℤ) (room count : ℕ) → check_of t w room ≡ Ok count → Accepts t w room count
  -- and back: all rules, and room for the list, are enough
  pub accepts-back : (t w : List ℤ) (room count : ℕ) → Accepts t w room count → check_of t w room ≡ Ok count
  -- a 17 has the true number of words as its place, and the buffer is shorter
  pub room-needed : (t w : List ℤ) (room place : ℕ) → check_of t w room ≡ broken Room place → (place ≡ length (alarm_words t w)) × (room < place)
  pub room-number : (t w : List ℤ) (room place : ℕ) → check_of t w room ≡ broken Room place → verdict_numbers (check_of t w room) ≡ refused_as 17 place
  -- a pair is on the list exactly when some reached point's evaluation calls it possible
  pub list-raised : (t w : List ℤ) (n k : ℕ) → n < (sizes_of t).nodes → IsKind k → on_list n k (alarm_words t w) ≡ raised t w n k
  pub list-below : (t w : List ℤ) (n k : ℕ) → on_list n k (alarm_words t w) ≡ true → (n < (sizes_of t).nodes) × IsKind k
  -- the list is strictly rising
  pub list-rising : (t w : List ℤ) → rising_from 0 0 (alarm_words t w) ≡ true
