-- What the functions of this crate may count on, rule by rule: they are called in document 01's order.
-- Assumes nothing.
use Rattle.std.specs.Prelude.{ℕ, ◌+◌, ◌*◌, ◌<◌, ◌≤◌, ◌≡◌, Bool, true, ◌&&◌, List, ℤ, length, ◌≤ℤ◌}
use Rattle.std.specs.Int.Signed.{le_z}
use Rattle.words.specs.Words.{word_of}
use Rattle.table.specs.Layout.{sizes_of}
use Rattle.table.specs.Passes.{Passes}
use Rattle.analysis.specs.declared.Row.{Row}
use Rattle.rules.specs.Proposal.{entries_of, intervals_of, lows_from, proposal_length, head_of, entry_low, entry_high}
use Rattle.rules.specs.Rules.{rule9, rule10}

-- all sizes are within their limits, and the proposal is as long as they call for: by refusals 2, 7 and 8
pub record Bounded (t w : List ℤ) : Type 0 where
  pub tasks : (sizes_of t).tasks ≤ 8
  pub variables : (sizes_of t).variables ≤ 16
  pub mutexes : (sizes_of t).mutexes ≤ 8
  pub points : (sizes_of t).points ≤ 256
  pub nodes : (sizes_of t).nodes ≤ 1024
  pub entries : entries_of w ≤ 512
  pub whole : length w ≡ proposal_length t w

-- both ends of n variables are there, and in order
pub record Ordered (lows highs : List ℤ) (n : ℕ) : Type 0 where
  pub low : n ≤ length lows
  pub high : n ≤ length highs
  pub ends : (v : ℕ) → v < n → le_z (word_of lows v) (word_of highs v) ≡ true

-- a row has an interval for each variable of the table, and no more than a row can have, and its ends are in order
pub record Whole (t lows highs : List ℤ) : Type 0 where
  pub variables : (sizes_of t).variables ≤ 16
  pub low : length lows ≡ (sizes_of t).variables
  pub high : length highs ≡ (sizes_of t).variables
  pub ordered : Ordered lows highs (sizes_of t).variables

-- of the first n entries, a row r is around those of other tasks than u: no end of a variable's interval is further in than that of such an entry of
-- the variable
pub record Around (t w : List ℤ) (u : ℕ) (r : Row) (n : ℕ) : Type 0 where
  pub low : (i : ℕ) → i < n → (head_of t w i 0 ≡ u → ⊥) → word_of r.lows (head_of t w i 2) ≤ℤ entry_low t w i
  pub high : (i : ℕ) → i < n → (head_of t w i 0 ≡ u → ⊥) → entry_high t w i ≤ℤ word_of r.highs (head_of t w i 2)

-- at the variable v, a row r holds both ends of such a row
abbrev pub holds_hull : Row → Row → ℕ → Bool
holds_hull hull r v = le_z (word_of r.lows v) (word_of hull.lows v) && le_z (word_of hull.highs v) (word_of r.highs v)

-- the table passed, the proposal's words are in range, and the entries' heads rise: by refusals 1 to 10
pub record Ready (t w : List ℤ) : Type 0 where
  pub bounded : Bounded t w
  pub passes : Passes t
  pub range : (i : ℕ) → i < lows_from t w + intervals_of t w → rule9 t w i ≡ true
  pub order : (i : ℕ) → i < entries_of w → rule10 t w i ≡ true
