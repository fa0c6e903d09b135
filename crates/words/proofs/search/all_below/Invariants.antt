-- `words::search::all_below`: the test holds at each place before the index, for any test that the closure computes. Assumes nothing.
use Prim.Native.Nat.{ℕ, ◌<◌}
use mathlib.Core.Path.{◌≡◌}
use mathlib.Core.Bool.{Bool}
use Rattle.words.proofs.FirstLaws.{Checked}
use Rattle.words.proofs.search.all_below.Given as goal

abbrev pub invariant-loop-i : goal.invariant-loop-i
invariant-loop-i g l = (f : ℕ → Bool) → ((k : ℕ) (r : Bool) → k < l.fn.n → goal.F-post g l.fn.holds k r → r ≡ f k) → Checked f l.fn.n l.i
