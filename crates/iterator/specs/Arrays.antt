-- The state of the passes as the code keeps it: rows in sixteen slots, of which the first n intervals count, and entries as intervals. No definition of the
-- proposal needs this.
-- Assumes nothing.
use Rattle.std.specs.Prelude.{ℕ, ◌+◌, ◌≡◌, Bool, false, List, [], ◌∷◌, map, take, replicate, ℤ, Option, None}
use Rattle.std.specs.Option.{option_map}
use Rattle.interval.specs.declared.Interval.{Interval}
use Rattle.table.specs.Layout.{sizes_of}
use Rattle.analysis.specs.declared.Row.{Row}
use Rattle.analysis.specs.Rows.{row_of, own_of}
use Rattle.proposer.specs.Widen.{trimmed_of, Places}
use Rattle.proposer.specs.Passes.{State}
use Rattle.iterator.specs.declared.places.Rows.{Rows}
use Rattle.iterator.specs.declared.places.Entries.{Entries}
use Rattle.iterator.specs.declared.places.State.{State as Kept}

-- past its first n intervals a row in sixteen slots is zeros
abbrev pub Clear : ℕ → Row → Type 0
Clear n r = r ≡ own_of (trimmed_of n r)

-- the row of one interval
abbrev pub one_of : Interval → Row
one_of x = row_of (x.low ∷ []) (x.high ∷ [])

-- the first c places, with f of what stands there
unfoldable pub places_by : {A : Type 0} → (A → Row) → ℕ → List (Option A) → Bool → Places
places_by f c at moved = record { at = take c (map (option_map f) at); moved = moved }

-- c places with rows of n intervals
abbrev pub rows_by : ℕ → ℕ → Rows → Places
rows_by n c r = places_by (trimmed_of n) c r.at r.moved

-- c places with entries
abbrev pub entries_by : ℕ → Entries → Places
entries_by c e = places_by one_of c e.at e.moved

-- ---- the state of the passes over the table t
abbrev pub rows_in : List ℤ → Rows → Places
rows_in t r = rows_by (sizes_of t).variables ((sizes_of t).points + (sizes_of t).mutexes) r

abbrev pub entries_in : List ℤ → Entries → Places
entries_in t e = entries_by (sizes_of t).points e

abbrev pub state_in : List ℤ → Kept → State
state_in t s = record { rows = rows_in t s.rows; entries = entries_in t s.entries }

-- nothing is there yet
abbrev pub blank_state : Kept
blank_state = record { rows = record { at = replicate 264 None; moved = false }; entries = record { at = replicate 256 None; moved = false } }
