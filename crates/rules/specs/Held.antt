-- Held sets: a set of mutexes as the sum of 2^m over its members (document 01, 'Proposal').
-- Assumes nothing.
use Rattle.std.specs.Prelude.{ℕ, ◌+◌, ◌-◌, ◌/◌, ◌%◌, ◌^◌, Bool, not, cond, ◌&&◌, eqb}
use Rattle.words.specs.First.{all_below}

-- mutex m is in the set s
abbrev pub has_of : ℕ → ℕ → Bool
has_of s m = eqb (s / 2 ^ m % 2) 1

-- the set with m, and without m
abbrev pub with_of : ℕ → ℕ → ℕ
with_of s m = cond (has_of s m) s (s + 2 ^ m)

abbrev pub without_of : ℕ → ℕ → ℕ
without_of s m = cond (has_of s m) (s - 2 ^ m) s

-- no mutex is in both
abbrev pub disjoint_of : ℕ → ℕ → Bool
disjoint_of s r = all_below (λ m. not (has_of s m && has_of r m)) 8
