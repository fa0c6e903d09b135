-- Refusal 6: how often a node is used (document 01, 'Task table'), and how the code counts the uses of every node in one walk.
-- Assumes nothing.
use Rattle.std.specs.Prelude.{ℕ, zero, suc, ◌+◌, Bool, true, false, cond, List, [], ◌∷◌, ◌++◌, eqb, ltb, ℤ, get_or, set}
use Rattle.words.specs.Words.{number_of}
use Rattle.table.specs.declared.Four.{Four}
use Rattle.table.specs.Layout.{sizes_of, points_of, nodes_of, four_of}
use Rattle.table.specs.Formed.{Field, Unused, Any, AtLeast, Variable, Mutex, Arithmetic, Condition, Target, Unknown, Fields, node_fields_of, point_fields_of, kind_of}

-- ---- 'each node is used exactly once, as a child or by a point'
-- the number of a field that names a node
unfoldable pub ref_of : Field → ℤ → List ℕ
ref_of Unused w = []
ref_of Any w = []
ref_of (AtLeast a) w = []
ref_of Variable w = []
ref_of Mutex w = []
ref_of Arithmetic w = number_of w ∷ []
ref_of Condition w = number_of w ∷ []
ref_of Target w = []
ref_of Unknown w = []

abbrev pub refs_by : Fields → Four → List ℕ
refs_by f x = ref_of f.a x.a ++ (ref_of f.b x.b ++ ref_of f.c x.c)

abbrev pub node_refs : List ℤ → ℕ → List ℕ
node_refs ns n = refs_by (node_fields_of (kind_of ns n) (four_of ns n).a) (four_of ns n)

abbrev pub point_refs : List ℤ → ℕ → List ℕ
point_refs ps p = refs_by (point_fields_of (kind_of ps p)) (four_of ps p)

-- those of the first n, one after another
unfoldable pub refs_below : (ℕ → List ℕ) → ℕ → List ℕ
refs_below f zero = []
refs_below f (suc n) = refs_below f n ++ f n

abbrev pub one_if : Bool → ℕ
one_if true = 1
one_if false = 0

-- how often n is among them
unfoldable pub count_of : ℕ → List ℕ → ℕ
count_of n [] = 0
count_of n (x ∷ l) = one_if (eqb x n) + count_of n l

unfoldable pub uses_of : List ℤ → ℕ → ℕ
uses_of t n = count_of n (refs_below (node_refs (nodes_of t)) (sizes_of t).nodes ++ refs_below (point_refs (points_of t)) (sizes_of t).points)

-- 6 use
abbrev pub rule6 : List ℤ → ℕ → Bool
rule6 t n = eqb (uses_of t n) 1

-- ---- the counts, which stop at two: more than one use is enough to refuse
-- one use more, up to two
unfoldable pub bump_of : ℕ → ℕ
bump_of c = cond (ltb c 2) (c + 1) c

-- the counts after a use of the node n; a number past the counts is left out
unfoldable pub use_of : List ℕ → ℕ → List ℕ
use_of counts n = set counts n (bump_of (get_or counts n 0))

-- after all the uses in the list
unfoldable pub uses_in : List ℕ → List ℕ → List ℕ
uses_in counts [] = counts
uses_in counts (n ∷ l) = uses_in (use_of counts n) l

-- whether the count of n is one
abbrev pub is_one_of : List ℕ → ℕ → Bool
is_one_of counts n = eqb (get_or counts n 0) 1
