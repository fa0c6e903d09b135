-- What stages that passed tell the stages after them: `Bounded` after 7 and 8, `Ready` after 11; and what a point of a table that passed names.
-- Assumes nothing.
use Prim.Native.Nat.{ℕ, ◌+◌, ◌<◌, ◌≤◌}
use mathlib.Core.Path.{◌≡◌, refl, sym, ap, ◌∙◌}
use mathlib.Core.Bool.{true}
use mathlib.Core.List.{List}
use native.Mathlib.Omega.{arith}
use borrow.Author.Tests.{leb-true, eqb-true}
use lib.Dec.{lit<}
use lib.IntN.{ℤ}
use lib.ListN.{length}
use Rattle.words.specs.First.{first_bad}
use Rattle.words.proofs.FirstLaws.{first_bad-none, unless-nothing}
use Rattle.words.proofs.StageLaws.{refuse-found, refuse-later, and_then-first, and_then-later}
use Rattle.table.specs.Layout.{sizes_of, points_of}
use Rattle.table.specs.Decode.{point_of}
use Rattle.table.specs.Validate.{validate_of}
use Rattle.table.specs.Passes.{FormedPoint, Passes}
use Rattle.table.specs.declared.Point.{Point}
use Rattle.table.specs.declared.checked.Table.{Table}
use Rattle.table.proofs.PassLaws.{passes}
use Rattle.analysis.specs.Alarms.{marked_of}
use Rattle.rules.specs.declared.Scope.{Scope}
use Rattle.rules.specs.Proposal.{rows_of, entries_of, intervals_of, lows_from, proposal_length}
use Rattle.rules.specs.Rules.{rule8, rule9, rule10}
use Rattle.rules.specs.Alarms.{alarms_in}
use Rattle.rules.specs.Parts.{Few}
use Rattle.rules.proofs.ProposalLaws.{passed_table, few_tasks, few_variables, few_mutexes, few_points}
use Rattle.rules.specs.Ready.{Bounded, Ready}
use Rattle.rules.specs.Examine.{whole_of, layout_stage, words_stage, ready_of, marks_by, marks_of}
use Rattle.std.specs.Prelude.{None, Result, Ok, Err}
use Rattle.words.specs.Stages.{Stage, passed, stage_of}
use Rattle.words.specs.declared.refusal.Refusal.{Refusal}

-- ---- what the stages tell
layout-whole : (t w : List ℤ) → layout_stage t w ≡ passed → length w ≡ proposal_length t w
unfolding layout_stage
layout-whole t w e = eqb-true _ _ (unless-nothing _ _ (refuse-found _ _ _ (refuse-later _ _ _ (refuse-later _ _ _ e))))

pub layout-bounded : {t w : List ℤ} → Passes t → layout_stage t w ≡ passed → Bounded t w
unfolding layout_stage rule8
layout-bounded {t} {w} p e = record {
  tasks = p.tasks.high;
  variables = p.variables.high;
  mutexes = p.mutexes.high;
  points = p.points.high;
  nodes = p.nodes.high;
  entries = leb-true _ _ (first_bad-none (rule8 t w) 4 (refuse-found _ _ _ (refuse-later _ _ _ e)) 3 (lit< tt));
  whole = layout-whole t w e;
}

pub few_sizes : (t : Table) (w : List ℤ) {n : ℕ} → layout_stage t.words.now w ≡ passed → n ≡ entries_of w → Few t.sizes n
few_sizes t w e q =
    let b = layout-bounded (passed_table t) e in
    record { tasks = few_tasks t; variables = few_variables t; mutexes = few_mutexes t; points = few_points t; entries = rw q b.entries }

in-range : (t w : List ℤ) → words_stage t w ≡ passed → (i : ℕ) → i < lows_from t w + intervals_of t w → rule9 t w i ≡ true
unfolding words_stage
in-range t w e = first_bad-none (rule9 t w) (lows_from t w + intervals_of t w) (refuse-found _ _ _ e)

ordered : (t w : List ℤ) → words_stage t w ≡ passed → (i : ℕ) → i < entries_of w → rule10 t w i ≡ true
unfolding words_stage
ordered t w e = first_bad-none (rule10 t w) (entries_of w) (refuse-found _ _ _ (refuse-later _ _ _ e))

pub ready : (t w : List ℤ) → ready_of t w ≡ passed → Ready t w
unfolding ready_of
ready t w e =
    let table = passes t (and_then-first (validate_of t) _ e) in
    let later = and_then-later (validate_of t) _ e in
    let sized = and_then-first (layout_stage t w) _ later in
    let read = and_then-first (words_stage t w) _ (and_then-later (layout_stage t w) _ later) in
    record { bounded = layout-bounded table sized; passes = table; range = in-range t w read; order = ordered t w read }

-- ---- a point of a table that passed: z is what the code reads there
module _ {t : List ℤ} (table : Passes t) where
  pub formed : (p : ℕ) {ps : List ℤ} {x z : Point} → p < (sizes_of t).points → ps ≡ points_of t → z ≡ point_of ps p → z ≡ x → FormedPoint t p x
  formed p l e f g = rw (← e, ← f, g) at (table.point p l)

  pub mutex-fits : {m : ℕ} → m < (sizes_of t).mutexes → m < 8
  mutex-fits h = omega (arith, table.mutexes.high)
