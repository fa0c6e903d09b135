-- The layout of a task table t: its sizes, its parts, and which task owns a point (document 01, 'Task table').
-- Assumes nothing.
use Rattle.std.specs.Prelude.{ℕ, zero, suc, ◌+◌, ◌*◌, ◌-◌, ◌/◌, ◌≤◌, Bool, true, false, cond, List, leb, ltb, ℤ, pos, length}
use Rattle.words.specs.Words.{word_of, number_at, part_of}
use Rattle.table.specs.declared.Sizes.{Sizes}
use Rattle.table.specs.declared.Four.{Four}

-- ---- 'five sizes: tasks, variables, mutexes, points, nodes'
abbrev pub sizes_of : List ℤ → Sizes
sizes_of t = record { tasks = number_at t 0; variables = number_at t 1; mutexes = number_at t 2; points = number_at t 3; nodes = number_at t 4 }

-- no size is past what a word can be
pub record Sized (s : Sizes) : Type 0 where
  pub tasks : s.tasks ≤ 4294967295
  pub variables : s.variables ≤ 4294967295
  pub mutexes : s.mutexes ≤ 4294967295
  pub points : s.points ≤ 4294967295
  pub nodes : s.nodes ≤ 4294967295

-- the length that the sizes call for
abbrev pub length_of : Sizes → ℕ
length_of s = 5 + s.tasks + s.variables + 4 * s.points + 4 * s.nodes

-- ---- the parts of a table
-- 'one point count for each task'
unfoldable pub shares_of : List ℤ → List ℤ
shares_of t = part_of t 5 (sizes_of t).tasks

-- 'one starting value for each variable'
unfoldable pub starts_of : List ℤ → List ℤ
starts_of t = part_of t (5 + (sizes_of t).tasks) (sizes_of t).variables

-- 'four words for each point', 'four words for each node'
unfoldable pub points_of : List ℤ → List ℤ
points_of t = part_of t (5 + (sizes_of t).tasks + (sizes_of t).variables) (4 * (sizes_of t).points)

unfoldable pub nodes_of : List ℤ → List ℤ
nodes_of t = part_of t (5 + (sizes_of t).tasks + (sizes_of t).variables + 4 * (sizes_of t).points) (4 * (sizes_of t).nodes)

-- the four words numbered n: 'kind, a, b, c'; past the last four they are 0
unfoldable pub four_by : Bool → List ℤ → ℕ → Four
four_by true ws i = record { kind = word_of ws i; a = word_of ws (i + 1); b = word_of ws (i + 2); c = word_of ws (i + 3) }
four_by false ws i = record { kind = pos 0; a = pos 0; b = pos 0; c = pos 0 }

unfoldable pub four_of : List ℤ → ℕ → Four
four_of ws n = four_by (ltb n (length ws / 4)) ws (4 * n)

-- ---- 'a task owns consecutive points and starts at its first'
-- the first point of task u, by the shares of the tasks before it
unfoldable pub first_in : List ℤ → ℕ → ℕ
first_in shares zero = 0
first_in shares (suc u) = first_in shares u + number_at shares u

-- task k where its first point isn't past p, else the task before
unfoldable pub later_of : ℕ → ℕ → ℕ → ℕ → ℕ
later_of first p k before = cond (leb first p) k before

-- of the tasks 0 to k, the last one whose first point isn't past p
unfoldable pub last_in : List ℤ → ℕ → ℕ → ℕ
last_in shares p zero = 0
last_in shares p (suc k) = later_of (first_in shares (suc k)) p (suc k) (last_in shares p k)

abbrev pub last_task_of : List ℤ → ℕ → ℕ
last_task_of shares p = last_in shares p (length shares - 1)

unfoldable pub first_of : List ℤ → ℕ → ℕ
first_of t u = first_in (shares_of t) u

-- the task that owns point p
unfoldable pub task_of : List ℤ → ℕ → ℕ
task_of t p = last_task_of (shares_of t) p
