-- What writing leaves. No definition of the proposal needs this.
-- Assumes nothing.
use Rattle.std.specs.Prelude.{ℕ, ◌+◌, ◌≡◌, List, ℤ, length}
use Rattle.std.proofs.Math.Seq.{paste}
use Rattle.analysis.specs.declared.Row.{Row}
use Rattle.iterator.specs.declared.write.Side.{Side}
use Rattle.iterator.specs.declared.write.Side.TheVariants.{Low, High}

-- the elements ws in the place of those from a place on, and the place behind them
pub record Puts {A : Type 0} (before : List A) (at : ℕ) (ws : List A) (after : List A) (next : ℕ) : Type 0 where
  pub is : after ≡ paste before at ws (length ws)
  pub next-is : next ≡ at + length ws

-- the low or the high ends of a row
unfoldable pub ends_of : Side → Row → List ℤ
ends_of Low r = r.lows
ends_of High r = r.highs
