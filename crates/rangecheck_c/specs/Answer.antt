-- What the exported functions answer: document 01's number, place and count of a check, those of a run, and those of a proposer with its words and passes.
-- Assumes nothing.
use Rattle.std.specs.Prelude.{ℕ, List, leb, ℤ, Result}
use Rattle.words.specs.First.{unless}
use Rattle.words.specs.Stages.{refuse, and_then, Numbers, stage_numbers, stage_of, Stage, passed}
use Rattle.table.specs.Validate.{validate_of}
use Rattle.words.specs.declared.refusal.Refusal.{Refusal}
use Rattle.proposer.specs.declared.Proposed.{Proposed}
use Rattle.proposer.specs.Propose.{given_by}
use Rattle.rangecheck_c.specs.declared.RangecheckAnswer.{RangecheckAnswer}
use Rattle.rangecheck_c.specs.declared.RangecheckProposed.{RangecheckProposed}
use Rattle.words.specs.declared.refusal.Rule.TheVariants.{Short}

-- the numbers as the struct that is handed back
abbrev pub answer_of : Numbers → RangecheckAnswer
answer_of n = record { number = n.number; place = n.place; count = n.count }

-- 31, an answer slice shorter than 48 words; the place is the words needed
unfoldable pub short_stage : ℕ → Stage
short_stage room = refuse Short (unless (leb 48 room) 48) passed

-- of a run: 'the table refusals first, then its own'
unfoldable pub ran_stage : List ℤ → ℕ → Stage
ran_stage t room = and_then (validate_of t) (short_stage room)

-- of a proposer
abbrev pub proposed_by : Result Proposed Refusal → RangecheckProposed
proposed_by r =
    record {
      number = (stage_numbers (stage_of r)).number;
      place = (stage_numbers (stage_of r)).place;
      words = (given_by r).words;
      passes = (given_by r).passes;
    }
