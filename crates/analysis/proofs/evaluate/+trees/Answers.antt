-- The functions of `analysis::evaluate` that call each other meet their contracts. Most goals are found alone, by the laws that the functions name; here a shape
-- that is none of those told apart is no condition.
-- Assumes nothing.
use mathlib.Core.Path.{refl}
use mathlib.Core.Bool.{not}
use Rattle.analysis.proofs.BareLaws.{none_wanted, not_not}
use Rattle.analysis.proofs.NodeTreeLaws.{no_cond_at}
use Rattle.analysis.specs.Alarms.{marked_of}
use Rattle.analysis.specs.Analysis.{value_of}
use Rattle.analysis.proofs.evaluate.+trees.Goals as goal

pub split-returns-in_default : goal.split-returns-in_default
unfolding value_of marked_of
split-returns-in_default t c =
    let truth = c.args.asked.now.truth in
    let other = c.in_default in
    let said = c.no_condition.ensures in
    rw (
      no_cond_at _ _ _ c.shape_at.ensures other.not-Compare other.not-Both other.not-Either other.not-Not,
      none_wanted _ truth _,
      none_wanted _ (not truth) _,
      not_not,
    )
    record { copy_if = said.copy_if; decision_value = said.decision_value; narrowed_after = rw said.narrowed_value refl; joined_after = said.joined_after; marks_after = refl }
