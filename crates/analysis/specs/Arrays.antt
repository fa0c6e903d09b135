-- Rows as the code has them: one that is read, and those that are lent to be narrowed in their places. No definition of the analysis needs this.
-- Assumes nothing.
use Rattle.std.specs.Prelude.{ℕ, ◌≡◌, Bool, true, false, List, ℤ, pos, replicate, Option, None, Some}
use Rattle.interval.specs.Compare.{both_of, either_of}
use Rattle.interval.specs.declared.Decision.{Decision}
use Rattle.interval.specs.declared.Interval.{Interval}
use Rattle.table.specs.Tree.{Cond, both, either, arith_at}
use Rattle.analysis.specs.declared.Split.{Split}
use Rattle.analysis.specs.Rows.{Row, row_of}
use Rattle.analysis.specs.Analysis.{value_of, decision_of, narrow_of}

-- ---- what narrowing made: whether there is a row, and the row, with zeros in the place of none
unfoldable pub is_some : Option Row → Bool
is_some None = false
is_some (Some r) = true

unfoldable pub left_of : Option Row → Row
left_of None = row_of (replicate 16 (pos 0)) (replicate 16 (pos 0))
left_of (Some r) = r

-- what a condition says of a row: its decision, and which of the two narrowings leave a row
abbrev pub split_of : Cond → Row → Split
split_of c r = record { decision = decision_of c r; yes = is_some (narrow_of c true r); no = is_some (narrow_of c false r) }

-- ---- two conditions in one: both of them, or either
unfoldable pub pair_of : Bool → Cond → Cond → Cond
pair_of true c d = both 0 c d
pair_of false c d = either 0 c d

unfoldable pub combined_of : Bool → Decision → Decision → Decision
combined_of true d e = both_of d e
combined_of false d e = either_of d e

-- ---- what is known of a row that is lent
-- where it is told so, it is a copy of another: of the row that is read, or of the one from which the opposite starts
abbrev pub CopyIf : Bool → Row → Row → Type 0
CopyIf told lent other = told ≡ true → lent ≡ other

-- where it is told so, x and y are the intervals of the nodes a and b on it
abbrev pub KnownIf : Bool → List ℤ → ℕ → ℕ → Option Interval → Option Interval → Row → Type 0
KnownIf told ns a b x y lent = told ≡ true → (x ≡ value_of (arith_at ns a) lent) × (y ≡ value_of (arith_at ns b) lent)
