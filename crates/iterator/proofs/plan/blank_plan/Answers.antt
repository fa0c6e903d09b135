-- Each field is filled with one value.
-- Assumes nothing.
use Rattle.iterator.proofs.plan.blank_plan.Goals as goal

pub returns : goal.returns
returns c = cc
