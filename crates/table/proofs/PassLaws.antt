-- What a table that passes refusals 1 to 6 gives: `Passes`, each field from the rule that tells it.
-- Assumes nothing.
use Prim.Native.Nat.{ℕ, ◌+◌, ◌<◌}
use mathlib.Core.Path.{◌≡◌, sym, ◌∙◌}
use mathlib.Core.Bool.{true}
use mathlib.Core.List.{List}
use native.Mathlib.Omega.{arith}
use borrow.Author.Tests.{eqb-true}
use lib.Dec.{lit<}
use lib.IntN.{ℤ}
use lib.ListN.{length, get_or}
use lib.Signed.{◌≤ℤ◌}
use Rattle.std.proofs.lemmas.Grind.{common_steps}
use Rattle.std.specs.Prelude.{None}
use Rattle.words.specs.Words.{number_of, number_at, inside}
use Rattle.words.specs.First.{first_bad}
use Rattle.words.proofs.FirstLaws.{first_bad-none}
use Rattle.words.proofs.StageLaws.{refuse-found, refuse-later, test-passed}
use Rattle.table.specs.declared.Four.{Four}
use Rattle.table.specs.Layout.{sizes_of, length_of, shares_of, points_of, nodes_of, four_of, first_of, task_of}
use Rattle.table.specs.Decode.{kept, shape_by, shape_from, shape_of, point_by, point_from, point_of}
use Rattle.table.specs.Formed.{Field, Unused, Any, AtLeast, Variable, Mutex, Arithmetic, Condition, Target, Unknown, Fields, Limits, node_fields_of, point_fields_of, fits_of, fields_fit_of}
use Rattle.table.specs.Uses.{refs_below, node_refs, point_refs, count_of, uses_of, rule6}
use Rattle.table.specs.Validate.{lowest, highest, size_ok_of, share_ok_of, rule4, rule5, sizes_stage, parts_stage, validate_of}
use Rattle.table.specs.Walk.{Whole}
use Rattle.table.specs.Passes.{Between, ArithmeticBelow, ConditionBelow, FormedNode, FormedPoint, Passes}
use Rattle.table.proofs.TaskLaws.{share-rise, task-owned, owned-task}
use Rattle.table.proofs.UseLaws.{count-append, user-count, users-apart}
use Rattle.words.specs.Stages.{passed}

-- ---- 1 length, 2 size
inside-true : (lo hi n : ℕ) → inside lo hi n ≡ true → Between lo hi n
inside-true lo hi n e = grind (arith, common_steps)

size-within : (t : List ℤ) → first_bad (size_ok_of t) 5 ≡ None → (k : ℕ) → k < 5 → Between (get_or lowest k 0) (get_or highest k 0) (number_at t k)
size-within t e k l = inside-true _ _ _ (first_bad-none (size_ok_of t) 5 e k l)

-- what the code of refusals 3 to 6 asks for
pub sizes_passed : (t : List ℤ) → first_bad (size_ok_of t) 5 ≡ None → length t ≡ length_of (sizes_of t) → Whole t
sizes_passed t e q = record { some = (size-within t e 0 (lit< tt)).low; few = (size-within t e 4 (lit< tt)).high; whole = q }

-- ---- what a field may name: the nodes below a number, and the points of a task
abbrev limits_at : List ℤ → ℕ → ℕ → Limits
limits_at t nodes task = record { variables = (sizes_of t).variables; mutexes = (sizes_of t).mutexes; nodes = nodes; points = (sizes_of t).points; task = task }

-- ---- what a field that fits tells, where nodes below `nodes` and points of `task` may be named
module _ (t : List ℤ) (nodes task : ℕ) where
  abbrev Told : Field → ℤ → Type 0
  Told Unused w = Unit {0}
  Told Any w = Unit {0}
  Told (AtLeast a) w = a ≤ℤ w
  Told Variable w = number_of w < (sizes_of t).variables
  Told Mutex w = number_of w < (sizes_of t).mutexes
  Told Arithmetic w = ArithmeticBelow (nodes_of t) nodes (number_of w)
  Told Condition w = ConditionBelow (nodes_of t) nodes (number_of w)
  Told Target w = (number_of w < (sizes_of t).points) × (task_of t (number_of w) ≡ task)
  Told Unknown w = ⊥

  fits_told : (f : Field) (w : ℤ) → fits_of (limits_at t nodes task) t (nodes_of t) f w ≡ true → Told f w
  unfolding fits_of
  fits_told f w e = grind (arith, common_steps)

  abbrev AllTold : Fields → Four → Type 0
  AllTold f x = Told f.a x.a × Told f.b x.b × Told f.c x.c

  fields_told : (f : Fields) (x : Four) → fields_fit_of (limits_at t nodes task) t (nodes_of t) f x ≡ true → AllTold f x
  fields_told f x e = grind (arith, common_steps, fits_told)

-- ---- 4 node, 5 point: the fields, and the shape or the point, are picked by the same kinds
shape-formed : (t : List ℤ) (n : ℕ) (x : Four) → AllTold t n 0 (node_fields_of (number_of x.kind) x.a) x → FormedNode t n (shape_from n x)
unfolding node_fields_of shape_from shape_by kept FormedNode
shape-formed t n x h = grind (arith, common_steps)

node-formed : (t : List ℤ) (n : ℕ) → rule4 t n ≡ true → FormedNode t n (shape_of (nodes_of t) n)
node-formed t n e = let x = four_of (nodes_of t) n in shape-formed t n x (fields_told t n 0 _ x e)

place-formed : (t : List ℤ) (p : ℕ) (x : Four) → AllTold t (sizes_of t).nodes (task_of t p) (point_fields_of (number_of x.kind)) x → FormedPoint t p (point_from x)
unfolding point_fields_of point_from point_by FormedPoint
place-formed t p x h = grind (arith, common_steps)

point-formed : (t : List ℤ) (p : ℕ) → rule5 t p ≡ true → FormedPoint t p (point_of (points_of t) p)
point-formed t p e = let x = four_of (points_of t) p in place-formed t p x (fields_told t (sizes_of t).nodes (task_of t p) _ x e)

-- ---- 6 use: the nodes' and the points' uses together are one
uses-sum : (t : List ℤ) (n : ℕ) → uses_of t n ≡ 1
    → count_of n (refs_below (node_refs (nodes_of t)) (sizes_of t).nodes) + count_of n (refs_below (point_refs (points_of t)) (sizes_of t).points) ≡ 1
unfolding uses_of
uses-sum t n once = sym (count-append n (refs_below (node_refs (nodes_of t)) (sizes_of t).nodes) _) ∙ once

-- ---- the record; a name that begins with `at` is what is left of the stage from that rule on
pub passes : (t : List ℤ) → validate_of t ≡ passed → Passes t
unfolding sizes_stage parts_stage first_of
passes t e =
    let at_size = refuse-later _ _ _ e in
    let at_length = refuse-later _ _ _ at_size in
    let at-share = refuse-later _ _ _ at_length in
    let at_sum = refuse-later _ _ _ at-share in
    let at-node = refuse-later _ _ _ at_sum in
    let at-point = refuse-later _ _ _ at-node in
    let at-use = refuse-later _ _ _ at-point in
    let size = size-within t (refuse-found _ _ _ at_size) in
    let tasks = size 0 (lit< tt) in
    let whole = eqb-true (length t) (length_of (sizes_of t)) (test-passed _ _ _ _ at_length) in
    let sum = eqb-true (first_of t (sizes_of t).tasks) (sizes_of t).points (test-passed _ _ _ _ at_sum) in
    let used : (n : ℕ) → n < (sizes_of t).nodes → uses_of t n ≡ 1 = λ n l. eqb-true _ _ (first_bad-none (rule6 t) _ (refuse-found _ _ _ at-use) n l) in
    record {
      tasks = tasks;
      variables = size 1 (lit< tt);
      mutexes = size 2 (lit< tt);
      points = size 3 (lit< tt);
      nodes = size 4 (lit< tt);
      whole = whole;
      share = λ u l. share-rise (shares_of t) u (first_bad-none (share_ok_of (shares_of t)) _ (refuse-found _ _ _ at-share) u l);
      sum = sum;
      owned = task-owned t tasks.low whole sum;
      owner = owned-task t tasks.low whole;
      node = λ n l. node-formed t n (first_bad-none (rule4 t) _ (refuse-found _ _ _ at-node) n l);
      point = λ p l. point-formed t p (first_bad-none (rule5 t) _ (refuse-found _ _ _ at-point) p l);
      used = used;
      points-apart =
          λ n p q lp lq cp cq l. users-apart (point_refs (points_of t)) n (sizes_of t).points p q (omega (arith, uses-sum t n (used n l))) lp lq cp cq;
      parents-apart =
          λ n p q lp lq cp cq l. users-apart (node_refs (nodes_of t)) n (sizes_of t).nodes p q (omega (arith, uses-sum t n (used n l))) lp lq cp cq;
      child-apart =
          λ n p q lp lq cp cq l. omega (arith, uses-sum t n (used n l), user-count (point_refs (points_of t)) n _ p lp, user-count (node_refs (nodes_of t)) n _ q lq);
    }
