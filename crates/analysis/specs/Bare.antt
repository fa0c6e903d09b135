-- A condition without the 'not' around it, and whether they turn it: whoever is given these needs no rows for them. The law `narrow-bare` (Laws.antt) says
-- what is left of a row.
-- Assumes nothing.
use Rattle.std.specs.Prelude.{Bool, false, not}
use Rattle.table.specs.Tree.{Cond, compare, both, either, is_not, no_cond}

unfoldable pub bare_of : Cond → Cond
bare_of (compare n k x y) = compare n k x y
bare_of (both n c d) = both n c d
bare_of (either n c d) = either n c d
bare_of (is_not n c) = bare_of c
bare_of (no_cond n) = no_cond n

unfoldable pub turned_of : Cond → Bool
turned_of (compare n k x y) = false
turned_of (both n c d) = false
turned_of (either n c d) = false
turned_of (is_not n c) = not (turned_of c)
turned_of (no_cond n) = false
