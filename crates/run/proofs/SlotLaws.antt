-- What a run stores fits its slot, where the table passes refusals 1 to 6: a first point and a target are points of the table, and the task, the
-- variable, the mutex and the node of an error are below their numbers.
-- Assumes nothing.
use Prim.Native.Nat.{ℕ, suc, ◌*◌, ◌/◌, ◌<◌, ◌≤◌}
use mathlib.Core.Path.{◌≡◌, refl}
use mathlib.Core.Bool.{Bool, true, false}
use mathlib.Core.List.{List}
use native.Mathlib.Omega.{arith}
use borrow.Author.Tests.{ltb-true}
use lib.Dec.{ltb}
use lib.IntN.{ℤ}
use lib.ListN.{length, length-take}
use Rattle.words.specs.Words.{number_of}
use Rattle.words.specs.Stages.{passed}
use Rattle.table.specs.declared.Point.{Point}
use Rattle.table.specs.declared.Point.TheVariants.{End, Assign, Test, Lock, Unlock}
use Rattle.table.specs.Layout.{sizes_of, shares_of, points_of, nodes_of, four_by, four_of, first_of}
use Rattle.table.specs.Validate.{validate_of}
use Rattle.table.specs.Decode.{point_by, point_from, point_of}
use Rattle.table.specs.Passes.{Passes, SameTask, FormedPoint}
use Rattle.table.proofs.PassLaws.{passes}
use Rattle.table.proofs.TaskLaws.{first-le}
use Rattle.run.specs.Kept.{Fits}

-- ---- the sizes of a table's parts
few-points : (t : List ℤ) → length (points_of t) ≤ 4 * (sizes_of t).points
unfolding points_of
few-points t = simp length-take (omega arith)

pub few-nodes : (t : List ℤ) → length (nodes_of t) ≤ 4 * (sizes_of t).nodes
unfolding nodes_of
few-nodes t = simp length-take (omega arith)

-- ---- what is stored
module _ {t : List ℤ} (ok : Passes t) where
  pub first-point : (u : ℕ) → u < (sizes_of t).tasks → first_of t u < (sizes_of t).points
  unfolding first_of
  first-point u h = omega (arith, ok.share u h, first-le (shares_of t) (suc u) (sizes_of t).tasks h, ok.sum)

  -- what stands at any number is formed: past the last point that is an end
  formed-by : (p : ℕ) (b : Bool) → ltb p (length (points_of t) / 4) ≡ b → FormedPoint t p (point_from (four_by b (points_of t) (4 * p)))
  unfolding four_by four_of point_from point_by number_of FormedPoint
  formed-by p true e = rw e at (ok.point p (omega (arith, few-points t, ltb-true p _ e)))
  formed-by p false e = tt

  formed-at : (p : ℕ) → FormedPoint t p (point_of (points_of t) p)
  unfolding four_of
  formed-at p = formed-by p _ refl

  -- so what it names fits
  target_fits : {p q : ℕ} → SameTask t p q → q < 256
  target_fits s = omega (arith, s.point, ok.points.high)

  fits-formed : (p : ℕ) (what : Point) → FormedPoint t p what → Fits what
  unfolding FormedPoint
  fits-formed p End f = tt
  fits-formed p (Assign v e q) f = (omega (arith, f.0, ok.variables.high), omega (arith, f.1.below, ok.nodes.high), target_fits f.2)
  fits-formed p (Test c y n) f = (omega (arith, f.0.below, ok.nodes.high), target_fits f.1, target_fits f.2)
  fits-formed p (Lock m q) f = (omega (arith, f.0, ok.mutexes.high), target_fits f.1)
  fits-formed p (Unlock m q) f = (omega (arith, f.0, ok.mutexes.high), target_fits f.1)

-- ---- of a table that was checked
module _ (t : List ℤ) (ok : validate_of t ≡ passed) where
  pub task_fits : (sizes_of t).tasks ≤ 8
  task_fits = (passes t ok).tasks.high

  pub first_fits : (u : ℕ) → u < (sizes_of t).tasks → first_of t u < 256
  first_fits u h = let p = passes t ok in omega (arith, first-point p u h, p.points.high)

  pub point_fits : (p : ℕ) (what : Point) → what ≡ point_of (points_of t) p → Fits what
  point_fits p what e = rw e (fits-formed (passes t ok) p (point_of (points_of t) p) (formed-at (passes t ok) p))
