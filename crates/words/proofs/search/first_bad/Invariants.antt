-- `words::search::first_bad`: none of the places before the index fails, for any test that the closure computes. Assumes nothing.
use Prim.Native.Nat.{ℕ, ◌<◌}
use mathlib.Core.Path.{◌≡◌}
use mathlib.Core.Bool.{Bool}
use Rattle.words.proofs.FirstLaws.{Searched}
use Rattle.words.proofs.search.first_bad.Given as goal

abbrev pub invariant-loop-k : goal.invariant-loop-k
invariant-loop-k g l = (f : ℕ → Bool) → ((k : ℕ) (r : Bool) → k < l.fn.n → goal.F-post g l.fn.holds k r → r ≡ f k) → Searched f l.fn.n l.k
