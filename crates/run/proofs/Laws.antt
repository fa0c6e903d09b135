-- The laws in the words of specs/Laws.
-- Assumes nothing.
use Rattle.run.specs.Laws.{Laws}
use Rattle.run.proofs.RunLaws.{step-uses, all-used, finished}

pub proved : Laws
proved = record { step-uses = step-uses; all-used = all-used; finished = finished }
