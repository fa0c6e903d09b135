-- Laws of the layout: how long a part can be, first points by the shares, and the last task whose first point isn't
-- past a point.
-- Assumes nothing.
use Prim.Native.Nat.{ℕ, zero, suc, ◌+◌, ◌-◌, ◌<◌, ◌≤◌, min}
use mathlib.Core.Path.{◌≡◌}
use mathlib.Core.List.{List}
use native.Mathlib.Numerals.{add-one}
use native.Mathlib.Omega.{arith}
use lib.IntN.{ℤ}
use lib.ListN.{length, length-take}
use Rattle.std.proofs.lemmas.Grind.{common_steps}
use Rattle.words.specs.Words.{number_of, number_at, part_of}
use Rattle.table.specs.Layout.{first_in, last_in, later_of}

-- a part is no longer than was asked
pub part-within : (ws : List ℤ) (from : ℕ) {count most : ℕ} → count ≤ most → length (part_of ws from count) ≤ most
part-within ws from h = simp length-take (omega arith)

-- ---- first points
-- the first point of the task after k
pub first_more : (shares : List ℤ) (k : ℕ) → first_in shares (k + 1) ≡ first_in shares k + number_at shares k
unfolding first_in
first_more shares k = rw add-one

-- past the last share nothing is added
first_past : (shares : List ℤ) (u : ℕ) → length shares ≤ u → first_in shares u ≡ first_in shares (length shares)
unfolding first_in number_of
first_past shares zero h = grind (arith, common_steps)
first_past shares (suc u) h = let before = first_past shares u in grind (arith, common_steps)

-- k is the number of a task, or of shares where there are fewer
pub first_least : (shares : List ℤ) (u k : ℕ) → k ≡ min u (length shares) → first_in shares k ≡ first_in shares u
first_least shares u k e = let past = first_past shares u in grind (arith, common_steps)

-- ---- the last task whose first point isn't past p
-- of the tasks up to k, by the last of those before k
pub last_more : (shares : List ℤ) (p k : ℕ) → 0 < k → last_in shares p (k + 1 - 1) ≡ later_of (first_in shares k) p k (last_in shares p (k - 1))
unfolding last_in
last_more shares p k h = grind (arith, common_steps)
