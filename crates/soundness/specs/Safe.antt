-- Demand 3 of one state: a field for each sentence (document 01, 'The run', second paragraph).
-- Assumes nothing.
use Rattle.std.specs.Prelude.{ℕ, ◌<◌, ◌≡◌, Bool, true, List, ℤ, pos, negsuc}
use Rattle.words.specs.Words.{word_of}
use Rattle.interval.specs.Interval.{Within}
use Rattle.table.specs.Layout.{sizes_of}
use Rattle.analysis.specs.declared.Row.{Row}
use Rattle.rules.specs.Held.{has_of}
use Rattle.rules.specs.Proposal.{held_word_of, held_of, row_at, rest_at}
use Rattle.checker.specs.Laws.{on_list}
use Rattle.run.specs.declared.State.{State}
use Rattle.run.specs.State.{point_in, owner_in, owns_of, stop_node_in, stop_kind_in}

-- 'a point is reached where its held word isn't -1'
pub record Reached (t w : List ℤ) (p : ℕ) : Type 0 where
  pub point : p < (sizes_of t).points
  pub held : held_word_of w p ≡ negsuc 0 → ⊥

-- what a task holds, against the mutexes that its held word names: exactly those
abbrev pub HoldsNamed : Bool → Bool → Type 0
HoldsNamed holds named = holds ≡ named

-- every variable of the table lies within the ends of a row
pub record Values (t : List ℤ) (r : Row) (s : State) : Type 0 where
  pub each : (v : ℕ) → v < (sizes_of t).variables → Within (word_of r.lows v) (word_of r.highs v) (word_of s.values v)

-- the pair of a node and a kind is on the list
pub record Listed (list : List ℤ) (node : ℤ) (kind : ℕ) : Type 0 where
  pub number : ℕ
  pub is : node ≡ pos number
  pub on : on_list number kind list ≡ true

-- every task u of the table counts, 'waiting, ended or stopped too'; the list is that of the alarms
pub record Safe (t w list : List ℤ) (s : State) : Type 0 where
  -- each task 'stands at a reached point'
  pub stands : (u : ℕ) → u < (sizes_of t).tasks → Reached t w (point_in s u)
  -- 'and holds exactly the locks its held word names'
  pub holds : (u m : ℕ) → u < (sizes_of t).tasks → m < (sizes_of t).mutexes → HoldsNamed (owns_of s u m) (has_of (held_of w (point_in s u)) m)
  -- 'every variable lies within the row of each task's point'
  pub within : (u : ℕ) → u < (sizes_of t).tasks → Values t (row_at t w (point_in s u)) s
  -- 'and the rest row of each free lock'
  pub rests : (m : ℕ) → m < (sizes_of t).mutexes → owner_in s m ≡ negsuc 0 → Values t (rest_at t w m) s
  -- 'every stopped task stopped at a listed node and kind'
  pub stopped : (u : ℕ) → u < (sizes_of t).tasks → (stop_kind_in s u ≡ 0 → ⊥) → Listed list (stop_node_in s u) (stop_kind_in s u)
