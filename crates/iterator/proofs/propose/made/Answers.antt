-- The passes go from the start, and what is written is the state that they end in.
-- Assumes nothing.
use Rattle.iterator.proofs.ProposeLaws.{start_filed, marks_held, result_is, buffer_is}
use Rattle.iterator.proofs.propose.made.Goals as goal

pub passes-passes-requires-clause-ready : goal.passes-passes-requires-clause-ready
passes-passes-requires-clause-ready c = start_filed _ _ c.begin.ensures

pub returns : goal.returns
returns c =
    let held = marks_held _ c.requires.marks_value c.plan_for.ensures.by_index in
    record {
      value = result_is _ _ held c.begin.ensures c.passes-passes.ensures.result_after c.write-words.ensures.value;
      out_after = buffer_is _ _ held c.begin.ensures c.passes-passes.ensures.result_after _ c.write-words.ensures.value c.write-words.ensures.out_after;
    }
