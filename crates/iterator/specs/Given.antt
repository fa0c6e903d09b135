-- What is read through all passes, for the definitions of a pass: the words of the table, the thresholds, the held sets, and a state. No definition of the
-- proposal needs this.
-- Assumes nothing.
use Rattle.std.specs.Prelude.{ℕ, List, ℤ}
use Rattle.proposer.specs.Passes.{State}
use Rattle.iterator.specs.declared.given.Given.{Given}
use Rattle.iterator.specs.declared.places.Rows.{Rows}
use Rattle.iterator.specs.declared.places.Entries.{Entries}
use Rattle.iterator.specs.declared.places.State.{State as Kept}
use Rattle.iterator.specs.Arrays.{rows_in, entries_in}
use Rattle.iterator.specs.Plan.{held_in, Filed}

abbrev pub table_of : Given → List ℤ
table_of g = g.table.now.words.now

abbrev pub thresholds_of : Given → List ℤ
thresholds_of g = g.thresholds.now

abbrev pub held_by : Given → ℕ → ℕ
held_by g = held_in g.plan.now

-- rows and entries, apart and together
abbrev pub parts_by : Given → Rows → Entries → State
parts_by g rows entries = record { rows = rows_in (table_of g) rows; entries = entries_in (table_of g) entries }

abbrev pub state_by : Given → Kept → State
state_by g s = parts_by g s.rows s.entries

-- what the functions of a pass may count on: entries stand only where they can
abbrev pub Ready : Given → Entries → Type 0
Ready g entries = Filed (table_of g) (held_by g) (entries_in (table_of g) entries)
