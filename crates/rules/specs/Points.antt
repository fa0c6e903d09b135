-- Rules 12, 13 and 14 at a point, and at the points of a range, together: one walk over the points settles all three.
-- Assumes nothing.
use Rattle.std.specs.Prelude.{ℕ, true, false, List, ◌++◌, ℤ}
use Rattle.words.specs.First.{or_else, unless}
use Rattle.table.specs.Tree.{Cond}
use Rattle.table.specs.declared.Point.{Point}
use Rattle.analysis.specs.declared.Row.{Row}
use Rattle.analysis.specs.Rows.{own_of}
use Rattle.analysis.specs.Analysis.{narrow_of}
use Rattle.rules.specs.declared.Fits.{Fits}
use Rattle.rules.specs.declared.Faults.{Faults}
use Rattle.rules.specs.Outcomes.{Outcome, outcome_if, outcomes_by}
use Rattle.rules.specs.Rules.{locks_fit, rows_fit, writes, rule12, rule13, rule14}
use Rattle.words.specs.First.{places, first_bad_in}

-- whether outcomes keep to rules 12 and 13
abbrev pub side_of : List ℤ → List ℤ → List Outcome → Fits
side_of t w l = record { locks = locks_fit w l; flow = rows_fit t w l; write = true }

-- those of a test by the condition c, which goes on at y or at n, on the row r
abbrev pub tested_of : List ℤ → List ℤ → Cond → ℕ → ℕ → ℕ → Row → Fits
tested_of t w c y n s r = side_of t w (outcome_if (narrow_of c true (own_of r)) s y ++ outcome_if (narrow_of c false (own_of r)) s n)

-- by what stands at the reached point p, its held set s and its row r
unfoldable pub fits_by : List ℤ → List ℤ → Point → ℕ → ℕ → Row → Fits
fits_by t w x p s r = record { locks = locks_fit w (outcomes_by t w x s r); flow = rows_fit t w (outcomes_by t w x s r); write = writes t w x p s r }

unfoldable pub fits_at : List ℤ → List ℤ → ℕ → Fits
fits_at t w p = record { locks = rule12 t w p; flow = rule13 t w p; write = rule14 t w p }

-- the smallest places, one point more
unfoldable pub fault_or : Faults → Fits → ℕ → Faults
fault_or f x p =
    record {
      locks = or_else f.locks (unless x.locks p);
      flow = or_else f.flow (unless x.flow p);
      write = or_else f.write (unless x.write p);
    }

-- the smallest places from one point on and below another
unfoldable pub faults_of : List ℤ → List ℤ → ℕ → ℕ → Faults
faults_of t w from to =
    record {
      locks = first_bad_in (rule12 t w) (places from to);
      flow = first_bad_in (rule13 t w) (places from to);
      write = first_bad_in (rule14 t w) (places from to);
    }
