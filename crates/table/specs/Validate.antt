-- Refusals 1 to 6 of a table t, in document 01's order ('Refusals of a check').
-- Assumes nothing.
use Rattle.std.specs.Prelude.{ℕ, Bool, List, [], ◌∷◌, eqb, leb, ℤ, pos, length, get_or}
use Rattle.std.specs.Int.Signed.{le_z}
use Rattle.words.specs.Words.{word_of, number_at, inside}
use Rattle.words.specs.First.{unless, first_bad}
use Rattle.words.specs.Stages.{refuse, Numbers, stage_numbers, Stage, passed}
use Rattle.table.specs.Layout.{sizes_of, length_of, shares_of, points_of, nodes_of, first_of}
use Rattle.table.specs.Formed.{Limits, node_ok_of, point_ok_of}
use Rattle.table.specs.Uses.{rule6}
use Rattle.words.specs.declared.refusal.Rule.TheVariants.{Length, Size, Share, Node, Point, Use}

-- ---- 2 size: 'tasks 1..8, variables 1..16, mutexes 0..8, points 1..256, nodes 0..1024'
abbrev pub lowest : List ℕ
lowest = 1 ∷ 1 ∷ 0 ∷ 1 ∷ 0 ∷ []

abbrev pub highest : List ℕ
highest = 8 ∷ 16 ∷ 8 ∷ 256 ∷ 1024 ∷ []

abbrev pub size_ok_of : List ℤ → ℕ → Bool
size_ok_of t k = inside (get_or lowest k 0) (get_or highest k 0) (number_at t k)

-- ---- 3 share: each point count is at least 1
abbrev pub share_ok_of : List ℤ → ℕ → Bool
share_ok_of shares u = le_z (pos 1) (word_of shares u)

-- ---- the rules at a place, and the stage: short 1, 2, other 1, 3 to 6, each with its smallest place
abbrev pub limits_of : List ℤ → Limits
limits_of t = record { variables = (sizes_of t).variables; mutexes = (sizes_of t).mutexes; nodes = (sizes_of t).nodes; points = (sizes_of t).points; task = 0 }

abbrev pub rule4 : List ℤ → ℕ → Bool
rule4 t n = node_ok_of (limits_of t) t (nodes_of t) n

abbrev pub rule5 : List ℤ → ℕ → Bool
rule5 t p = point_ok_of (limits_of t) t (nodes_of t) (points_of t) p

-- 1 length, 2 size
unfoldable pub sizes_stage : List ℤ → Stage → Stage
sizes_stage t later =
    refuse Length (unless (leb 5 (length t)) (length t))
    (refuse Size (first_bad (size_ok_of t) 5)
    (refuse Length (unless (eqb (length t) (length_of (sizes_of t))) (length t))
    later))

unfoldable pub parts_stage : List ℤ → Stage
parts_stage t =
    refuse Share (first_bad (share_ok_of (shares_of t)) (sizes_of t).tasks)
    (refuse Share (unless (eqb (first_of t (sizes_of t).tasks) (sizes_of t).points) (sizes_of t).tasks)
    (refuse Node (first_bad (rule4 t) (sizes_of t).nodes)
    (refuse Point (first_bad (rule5 t) (sizes_of t).points)
    (refuse Use (first_bad (rule6 t) (sizes_of t).nodes)
    passed))))

abbrev pub validate_of : List ℤ → Stage
validate_of t = sizes_stage t (parts_stage t)

-- document 01's number and place of that refusal
abbrev pub table_numbers : List ℤ → Numbers
table_numbers t = stage_numbers (validate_of t)
