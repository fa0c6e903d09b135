-- `words::search::first_bad_in`: none of the places before the index fails, for any test that the closure computes. Assumes nothing.
use Prim.Native.Nat.{ℕ, ◌<◌, ◌≤◌}
use mathlib.Core.Path.{◌≡◌}
use mathlib.Core.Bool.{Bool}
use Rattle.words.proofs.PlaceLaws.{Sought}
use Rattle.words.proofs.search.first_bad_in.Given as goal

abbrev pub invariant-loop-k : goal.invariant-loop-k
invariant-loop-k g l =
    (f : ℕ → Bool) → ((k : ℕ) (r : Bool) → l.fn.places.from ≤ k → k < l.fn.places.to → goal.F-post g l.fn.holds k r → r ≡ f k)
    → Sought f l.fn.places.from l.fn.places.to l.k
