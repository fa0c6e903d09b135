-- The two sorts of nodes, as the code of refusals 4 and 5 tells them apart.
-- Assumes nothing.
use Rattle.std.specs.Prelude.{ℕ, Bool}
use Rattle.table.specs.declared.formed.Sort.{Sort}
use Rattle.table.specs.declared.formed.Sort.TheVariants.{Arithmetic, Condition}
use Rattle.table.specs.Decode.{is_arithmetic, is_condition}

abbrev pub sort_holds : Sort → ℕ → Bool
sort_holds Arithmetic k = is_arithmetic k
sort_holds Condition k = is_condition k
