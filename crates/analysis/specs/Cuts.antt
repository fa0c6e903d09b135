-- What a comparison leaves of a row, as the intervals of at most two variables in place of the row's own: whoever is given these needs no row. The law
-- `narrow_cuts` (Laws.antt) says that this is the narrowing of document 01.
-- Assumes nothing.
use Rattle.std.specs.Prelude.{ℕ, Bool, cond, ltb, eqb, Option}
use Rattle.interval.specs.Lattice.{meet_of}
use Rattle.interval.specs.declared.Interval.{Interval}
use Rattle.interval.specs.declared.Cuts.{Cuts}
use Rattle.table.specs.Tree.{Arith, constant, input, variable, negation, binary, choice, no_arith}
use Rattle.analysis.specs.Rows.{Row, then_row, put_of, meet_at_of}

-- 'only variable nodes carry the cut back to the row': the variable that a side is, or the number past where it is none that has a slot
unfoldable pub variable_or : ℕ → Arith → ℕ
variable_or past (constant n z) = past
variable_or past (input n a b) = past
variable_or past (variable n v) = cond (ltb v 16) v past
variable_or past (negation n x) = past
variable_or past (binary n op x y) = past
variable_or past (choice n c x y) = past
variable_or past (no_arith n) = past

-- the row with the cuts u of the variables v and w, in turn: 'one variable on both sides takes the meet of its two cuts'
unfoldable pub cut_row_of : Row → ℕ → ℕ → Cuts → Option Row
cut_row_of r v w u = then_row (put_of r v u.left) (λ s. cond (eqb v w) (meet_at_of s w u.right) (put_of s w u.right))

-- the second interval where no row is made, by whether both are of one variable
unfoldable pub met_if : Bool → Option Interval → Option Interval → Option Interval
met_if same left right = cond same (meet_of left right) right
