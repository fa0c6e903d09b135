-- The laws in the words of specs/Laws.
-- Assumes nothing.
use mathlib.Core.Path.{subst}
use Rattle.analysis.specs.Analysis.{narrow_of}
use Rattle.analysis.specs.Laws.{Laws}
use Rattle.analysis.proofs.RowLaws.{tighter-within}
use Rattle.analysis.proofs.AlarmLaws.{marked-lists}
use Rattle.analysis.proofs.NodeLaws.{Outcome, CondOutcome}
use Rattle.analysis.proofs.AgreeLaws.{value-agrees, alarms-agree, decision-agrees, cond_alarms-agree}
use Rattle.analysis.proofs.BareLaws.{narrow-bare, alarms-bare}
use Rattle.analysis.proofs.CutLaws.{narrow_cuts}
use Rattle.analysis.proofs.AnalysisLaws.{arith-outcome, cond-outcome, alarms-kinds, cond_alarms-kinds, narrow-tighter}

pub proved : Laws
proved = record {
  value-contains = λ x r vs ws p i z q e. (subst (Outcome vs x) e (arith-outcome vs ws x p)).contains r i;
  error-listed = λ x r vs ws p i n k q e. subst (Outcome vs x) e (arith-outcome vs ws x p) r i;
  truth-allowed = λ c r vs ws p i b q e. (subst (CondOutcome vs c) e (cond-outcome vs ws c p)).allowed r i;
  failure-listed = λ c r vs ws p i n k q e. subst (CondOutcome vs c) e (cond-outcome vs ws c p) r i;
  narrow_keeps = λ c r vs ws p i b q e. (subst (CondOutcome vs c) e (cond-outcome vs ws c p)).keeps r i;
  narrow_within = λ c w r. tighter-within (narrow_of c w r) r (narrow-tighter c w r);
  narrow_cuts = narrow_cuts;
  narrow-bare = narrow-bare;
  alarms-bare = alarms-bare;
  alarms-kinds = alarms-kinds;
  cond_alarms-kinds = cond_alarms-kinds;
  marked-lists = marked-lists;
  value-agrees = λ x r s p q a. (value-agrees r s p q x a, alarms-agree r s p q x a);
  decision-agrees = λ c r s p q a. (decision-agrees r s p q c a, cond_alarms-agree r s p q c a);
  decision-agrees-none-empty = λ c r s p q e f a. (decision-agrees r s p q c a, cond_alarms-agree r s p q c a);
}
