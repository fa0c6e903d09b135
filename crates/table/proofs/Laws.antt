-- The laws in the words of specs/Laws.
-- Assumes nothing.
use Rattle.table.specs.Laws.{Laws}
use Rattle.table.proofs.TreeLaws.{children-below, arith_is, cond-is}
use Rattle.table.proofs.PassLaws.{passes}

pub proved : Laws
proved = record { arith_is = arith_is; cond-is = cond-is; children-below = children-below; passes = passes }
