-- What the definitions say at a point that the code looks at, whose held set and row it has at hand.
-- Assumes nothing.
use Rattle.std.specs.Prelude.{ℕ, ◌<◌, Bool, List, ◌++◌, ℤ}
use Rattle.table.specs.Layout.{sizes_of}
use Rattle.table.specs.Tree.{Cond}
use Rattle.table.specs.declared.Point.{Point}
use Rattle.analysis.specs.declared.Alarm.{Alarm}
use Rattle.analysis.specs.Rows.{seen}
use Rattle.rules.specs.declared.Fits.{Fits}
use Rattle.rules.specs.declared.reached.Reached.{Reached}
use Rattle.rules.specs.Outcomes.{Outcome}
use Rattle.rules.specs.Alarms.{alarms_by}
use Rattle.rules.specs.Points.{side_of, tested_of, fits_by}

-- the words of the table, and of the proposal
abbrev pub table_at : Reached → List ℤ
table_at r = r.all.now.proposal.table.words.now

abbrev pub words_at : Reached → List ℤ
words_at r = r.all.now.proposal.words.now

-- the words of its nodes
abbrev pub nodes_at : Reached → List ℤ
nodes_at r = r.all.now.proposal.table.nodes.now

-- q is one of the table's points
abbrev pub There : Reached → ℕ → Type 0
There r q = q < (sizes_of (table_at r)).points

-- whether what stands at the point keeps to rules 12, 13 and 14, and its alarms
abbrev pub fits_there : Reached → Point → Fits
fits_there r x = fits_by (table_at r) (words_at r) x r.point r.held (seen r.row)

abbrev pub alarms_there : Reached → Point → List Alarm
alarms_there r x = alarms_by (table_at r) x (seen r.row)

-- whether outcomes keep to rules 12 and 13, and those of a test by the condition c, which goes on at y or at n
abbrev pub side_there : Reached → List Outcome → Fits
side_there r l = side_of (table_at r) (words_at r) l

abbrev pub tested_there : Reached → Cond → ℕ → ℕ → Fits
tested_there r c y n = tested_of (table_at r) (words_at r) c y n r.held (seen r.row)
