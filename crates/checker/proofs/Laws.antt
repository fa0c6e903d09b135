-- The laws in the words of specs/Laws.
-- Assumes nothing.
use Rattle.table.specs.Layout.{sizes_of}
use Rattle.checker.specs.AlarmList.{raised, alarm_words}
use Rattle.checker.specs.Laws.{Laws}
use Rattle.checker.proofs.ListLaws.{on-holds, on_below, pairs-rising}
use Rattle.checker.proofs.AcceptLaws.{accepts, room-needed, room-number}
use Rattle.checker.proofs.PassedLaws.{accepted-back}

pub proved : Laws
unfolding alarm_words
proved = record {
  accepted = accepts;
  accepts-back = accepted-back;
  room-needed = room-needed;
  room-number = room-number;
  list-raised = λ t w n k l is. on-holds (raised t w) (sizes_of t).nodes n k l is;
  list-below = λ t w n k e. on_below (raised t w) (sizes_of t).nodes n k e;
  list-rising = λ t w. pairs-rising (raised t w) (sizes_of t).nodes;
}
