-- `analysis::Row::widen` meets its contract: the loop writes the ends of both rows together over those of the row, one variable a turn.
-- Assumes nothing.
use Rattle.std.specs.Int.{int_min, int_max}
use Rattle.analysis.proofs.RowCodeLaws.{Joining}
use Rattle.analysis.proofs.Row.widen.Given as goal

abbrev pub invariant-loop-v : goal.invariant-loop-v
invariant-loop-v l = record {
  lows : Joining int_min l.initial.self.lows l.more.lows l.v l.self.lows;
  highs : Joining int_max l.initial.self.highs l.more.highs l.v l.self.highs;
}
