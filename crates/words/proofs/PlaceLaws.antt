-- A search over a range of places, `first_bad_in f (places from to)`. A loop that makes it has the invariant `Sought f from to k`, k the loop's
-- counter, and the measure to - k:
--     seek          where the loop begins
--     seeks         the test holds at k: the invariant at k + 1
--     skips         it holds at each place before m: the invariant at m
--     sought        the test fails at k: what the loop's `return` gives
--     unfound       k has come to the end: what is given after the loop
-- Assumes nothing.
use Prim.Native.Nat.{ℕ, ◌+◌, ◌<◌, ◌≤◌}
use mathlib.Core.Path.{◌≡◌, refl, sym, ap, ◌∙◌}
use mathlib.Core.Bool.{Bool, true, false, ◌||◌}
use native.Mathlib.Omega.{arith}
use borrow.Author.Tests.{lt-ltb, le-ltb, ltb-true, ltb-false}
use lib.Dec.{ltb}
use Rattle.std.specs.Prelude.{None, Some}
use Rattle.words.proofs.Bools.{or_left, or_right}
use Rattle.words.proofs.FirstLaws.{Searched, next, stop, first_bad-none, none-first_bad}
use Rattle.words.specs.First.{places, first_bad, first_bad_in}

-- the test, where places before the range pass
abbrev pub From : (ℕ → Bool) → ℕ → ℕ → Bool
From f from k = ltb k from || f k

pub record Sought (f : ℕ → Bool) (from to k : ℕ) : Type 0 where
  pub past : from ≤ k
  pub none : first_bad (From f from) k ≡ None

pub seek : {f : ℕ → Bool} {from to : ℕ} → Sought f from to from
seek {f} {from} {to} = record { past = omega arith; none = none-first_bad (From f from) from (λ j l. or_left (f j) (lt-ltb j from l)) }

-- the tests before k as a search over k places, which came to its end
ended : {f : ℕ → Bool} {from to k : ℕ} → Sought f from to k → (n : ℕ) → k ≤ n → Searched (From f from) n k
ended {f} {from} {to} {k} s n h = record { within = h; none = s.none }

pub seeks : {f : ℕ → Bool} {from to k : ℕ} → Sought f from to k → k < to → f k ≡ true → Sought f from to (k + 1)
seeks {f} {from} {to} {k} s l q =
    let more = next (ended s to (omega arith)) l (or_right (ltb k from) q) in record { past = omega (arith, s.past); none = more.none }

-- the test holds at each place from k on and below m
pub skips : {f : ℕ → Bool} {from to k : ℕ} (m : ℕ) → Sought f from to k → k ≤ m → ((j : ℕ) → k ≤ j → j < m → f j ≡ true) → Sought f from to m
skips {f} {from} {to} {k} m s l g =
    record { past = omega (arith, s.past); none = none-first_bad (From f from) m (λ j below. by j below (ltb j k) refl) }
  where
    by : (j : ℕ) → j < m → (b : Bool) → ltb j k ≡ b → From f from j ≡ true
    by j below true e = first_bad-none (From f from) k s.none j (ltb-true j k e)
    by j below false e = or_right (ltb j from) (g j (ltb-false j k e) below)

pub sought : {f : ℕ → Bool} {from to k : ℕ} → Sought f from to k → k < to → f k ≡ false → Some k ≡ first_bad_in f (places from to)
unfolding first_bad_in
sought {f} {from} {to} {k} s l q = stop (ended s to (omega arith)) l (ap (λ (b : Bool). b || f k) (le-ltb k from s.past) ∙ q)

-- k has come to the end, or the range ends before it begins
pub unfound : {f : ℕ → Bool} {from to k : ℕ} → Sought f from to k → to ≤ k → None ≡ first_bad_in f (places from to)
unfolding first_bad_in
unfound {f} {from} {to} {k} s l = sym (none-first_bad (From f from) to (λ j below. first_bad-none (From f from) k s.none j (omega (arith, l))))
