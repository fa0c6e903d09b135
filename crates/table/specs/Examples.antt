-- Document 01's examples of tables, in one table proved by computation: the starred one, and the three that are executed too.
-- Assumes nothing.
use Rattle.std.specs.Prelude.{ℕ, ◌≡◌, refl, List, [], ◌∷◌, map, ℤ, pos}
use Rattle.words.specs.Words.{number_of}
use Rattle.words.specs.First.{unless, or_else, first_bad}
use Rattle.words.specs.Stages.{refuse, Stage, passed, broken, Numbers, number_by, numbers_by, refused_as}
use Rattle.table.specs.Layout.{shares_of, points_of, nodes_of, four_by, four_of, first_in, later_of, last_in, first_of, task_of}
use Rattle.table.specs.Formed.{node_fields_of, point_fields_of, fits_of}
use Rattle.table.specs.Uses.{ref_of, refs_below, count_of, uses_of}
use Rattle.table.specs.Validate.{validate_of, table_numbers, sizes_stage, parts_stage}
use Rattle.words.specs.declared.refusal.Rule.{Rule}
use Rattle.words.specs.declared.refusal.Rule.TheVariants.{Length, Size}

-- a table, and what the document says of it, also by its number
pub record Row : Type 0 where
  pub table : List ℤ
  pub said : Stage
  pub numbers : Numbers

abbrev row : List ℤ → Row
row t = record { table = t; said = passed; numbers = refused_as 0 0 }

abbrev refused : List ℤ → Rule → ℕ → ℕ → Row
refused t rule number place = record { table = t; said = broken rule place; numbers = refused_as number place }

unfoldable pub rows : List Row
rows =
    -- starred: the empty table
    refused [] Length 1 0
    -- Bare
    ∷ row (pos 2 ∷ pos 1 ∷ pos 0 ∷ pos 3 ∷ pos 1 ∷ pos 2 ∷ pos 1 ∷ pos 0 ∷ pos 1 ∷ pos 0 ∷ pos 0 ∷ pos 1 ∷ pos 0 ∷ pos 0 ∷ pos 0 ∷ pos 0 ∷ pos 0 ∷ pos 0 ∷ pos 0 ∷ pos 0 ∷ pos 0 ∷ pos 5 ∷ pos 0 ∷ pos 0 ∷ [])
    -- whole at 11 words; without its last word; with a first word of 9
    ∷ row (pos 1 ∷ pos 1 ∷ pos 0 ∷ pos 1 ∷ pos 0 ∷ pos 1 ∷ pos 0 ∷ pos 0 ∷ pos 0 ∷ pos 0 ∷ pos 0 ∷ [])
    ∷ refused (pos 1 ∷ pos 1 ∷ pos 0 ∷ pos 1 ∷ pos 0 ∷ pos 1 ∷ pos 0 ∷ pos 0 ∷ pos 0 ∷ pos 0 ∷ []) Length 1 10
    ∷ refused (pos 9 ∷ pos 1 ∷ pos 0 ∷ pos 1 ∷ pos 0 ∷ pos 1 ∷ pos 0 ∷ pos 0 ∷ pos 0 ∷ pos 0 ∷ pos 0 ∷ []) Size 2 0
    ∷ []

abbrev pub Starred : Type 0
Starred = (map (λ (r : Row). validate_of r.table) rows ≡ map (λ (r : Row). r.said) rows) × (map (λ (r : Row). table_numbers r.table) rows ≡ map (λ (r : Row). r.numbers) rows)

pub starred : Starred
unfolding rows number_of unless or_else first_bad refuse shares_of points_of nodes_of four_by four_of first_in later_of last_in first_of task_of node_fields_of point_fields_of fits_of ref_of refs_below count_of uses_of sizes_stage parts_stage number_by numbers_by
starred = (refl, refl)
