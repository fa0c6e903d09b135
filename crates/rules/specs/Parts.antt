-- The parts of a proposal's words, as the struct `Proposal` has them.
-- Assumes nothing.
use Rattle.std.specs.Prelude.{ℕ, ◌≡◌, ◌≤◌, List, ℤ}
use Rattle.table.specs.declared.Sizes.{Sizes}
use Rattle.rules.specs.Proposal.{entries_of, heads_of, lows_of, highs_of, entries_at}

-- the table's sizes s, and n entries, are within their limits
pub record Few (s : Sizes) (n : ℕ) : Type 0 where
  pub tasks : s.tasks ≤ 8
  pub variables : s.variables ≤ 16
  pub mutexes : s.mutexes ≤ 8
  pub points : s.points ≤ 256
  pub entries : n ≤ 512

-- for the table t: n entries with the heads h, all low and all high ends, and those of the entries
pub record Parts (t w : List ℤ) (n : ℕ) (h low high from to : List ℤ) : Type 0 where
  pub entries : n ≡ entries_of w
  pub heads : h ≡ heads_of t w
  pub lows : low ≡ lows_of t w
  pub highs : high ≡ highs_of t w
  pub entry_lows : from ≡ (entries_at t w).lows
  pub entry_highs : to ≡ (entries_at t w).highs
