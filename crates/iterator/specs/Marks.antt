-- What functions that mark give.
-- Assumes nothing.
use Rattle.std.specs.Prelude.{◌≡◌, Bool, false, List}

-- the marks are those wanted, and as they were where none is new
pub record Marked (wanted before after : List Bool) (new : Bool) : Type 0 where
  pub marks : after ≡ wanted
  pub still : new ≡ false → after ≡ before
