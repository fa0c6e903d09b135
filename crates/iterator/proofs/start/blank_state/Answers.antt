-- Each field is filled with one value.
-- Assumes nothing.
use Rattle.iterator.proofs.start.blank_state.Goals as goal

pub returns : goal.returns
returns c = cc
