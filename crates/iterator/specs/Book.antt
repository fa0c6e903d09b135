-- The plan as the code makes it, a point at a time. No definition of the proposal needs this.
-- Assumes nothing.
use Rattle.std.specs.Prelude.{ℕ, ◌+◌, ◌<◌, ◌≤◌, ◌≡◌, true, not, List, ℤ, get_or, set, take, replicate, Option, None, Some}
use Rattle.words.specs.First.{first_bad}
use Rattle.table.specs.Layout.{points_of, task_of}
use Rattle.table.specs.Decode.{point_of}
use Rattle.proposer.specs.Fold.{those}
use Rattle.proposer.specs.Passes.{files_at, slot_of, written_to}
use Rattle.iterator.specs.declared.plan.Plan.{Plan}
use Rattle.iterator.specs.Plan.{code_count, code_at, is_assign, is_slot}

-- nothing is known, and no head has an entry
abbrev pub blank_plan : Plan
blank_plan =
    record {
      held = replicate 256 0;
      tasks = replicate 256 0;
      places = replicate 256 0;
      variables = replicate 256 0;
      listed = replicate 256 0;
      count = 0;
      heads = replicate 32768 None;
    }

-- the assignment at p, filed under the head c: where no point is filed under it yet, p is the place of its entry
unfoldable pub file_by : Option ℕ → Plan → ℕ → ℕ → Plan
file_by None b p c =
    record {
      held = b.held;
      tasks = b.tasks;
      places = set b.places p p;
      variables = b.variables;
      listed = set b.listed b.count p;
      count = b.count + 1;
      heads = set b.heads c (Some p);
    }
file_by (Some q) b p c =
    record {
      held = b.held;
      tasks = b.tasks;
      places = set b.places p q;
      variables = b.variables;
      listed = b.listed;
      count = b.count;
      heads = b.heads;
    }

-- what it has of the points before p
pub record Upto (t : List ℤ) (h : ℕ → ℕ) (p : ℕ) (b : Plan) : Type 0 where
  pub held : (q : ℕ) → q < p → get_or b.held q 0 ≡ h q
  pub free : (q : ℕ) → p ≤ q → get_or b.held q 0 ≡ 0
  pub task : (q : ℕ) → q < p → get_or b.tasks q 0 ≡ task_of t q
  pub place : (q : ℕ) → q < p → is_assign (point_of (points_of t) q) ≡ true → slot_of t h (code_at t h q) ≡ Some (get_or b.places q 0)
  pub variable : (q : ℕ) → q < p → is_assign (point_of (points_of t) q) ≡ true → get_or b.variables q 0 ≡ written_to (point_of (points_of t) q)
  pub few : b.count ≤ p
  pub listed : take b.count b.listed ≡ those (is_slot t h) p
  pub head : (c : ℕ) → c < code_count t → get_or b.heads c None ≡ first_bad (λ q. not (files_at t h c q)) p
