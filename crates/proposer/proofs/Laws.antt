-- The laws in the words of specs/Laws.
-- Assumes nothing.
use Rattle.proposer.specs.Laws.{Laws}
use Rattle.proposer.proofs.NearestLaws.{floor-is, ceil-is, low-any-order, high-any-order}
use Rattle.table.proofs.PassLaws.{passes}
use Rattle.proposer.proofs.WalkMeaning.{walk-brought, brought-walk, joined-differ, one_set}
use Rattle.proposer.proofs.Whole.{accepted, fits, in-room, few-passes, settled, ended}

pub proved : Laws
proved = record {
  floor-is = floor-is;
  ceil-is = ceil-is;
  low-any-order = low-any-order;
  high-any-order = high-any-order;
  walk-brought = λ t ok. walk-brought t (passes t ok);
  brought-walk = λ t ok. brought-walk t (passes t ok);
  joined = λ t ok. joined-differ t (passes t ok);
  one_set = λ t ok. one_set t (passes t ok);
  accepted = λ t ts room alarms w ok l. accepted t ts room w ok alarms l;
  fits = fits;
  room = in-room;
  ended = ended;
  passes = few-passes;
  settled = settled;
}
