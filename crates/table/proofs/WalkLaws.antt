-- Laws of the walk for refusals 4 to 6.
-- At a place, whose fields are tested one after another:
--     tested           a field that names no node
--     in_turn          two parts of the test
-- A loop over places has the invariant `Walked ok refs n before counts None`, n the loop's counter:
--     walk_none        where the loop begins
--     walk_next        the place n passes: the invariant at n + 1
--     walk_stop        the place n fails: what the loop's `return` gives
--     walk_longer      a place that failed, among more places
-- Assumes nothing.
use Prim.Native.Nat.{ℕ, suc, ◌+◌, ◌<◌, ◌≤◌}
use mathlib.Core.Path.{◌≡◌, refl, sym}
use mathlib.Core.Bool.{Bool, true, false, ◌&&◌}
use mathlib.Core.List.{List, [], ◌++◌}
use native.Mathlib.Numerals.{add-one}
use native.Mathlib.Omega.{arith}
use Rattle.std.specs.Prelude.{None, Some}
use Rattle.words.specs.First.{first_bad, or_else, unless}
use Rattle.words.proofs.Bools.{and_left, and_right}
use Rattle.words.proofs.FirstLaws.{first_bad-smallest, smallest-first_bad}
use Rattle.table.specs.Uses.{refs_below, uses_in}
use Rattle.table.specs.Walk.{Counted, Walked}
use Rattle.table.proofs.UseLaws.{uses-append}

-- ---- fields in a row
pub tested : {ok r : Bool} {counts : List ℕ} → r ≡ ok → Counted ok [] counts counts r
unfolding uses_in
tested e = record { is = e; uses = λ q. refl }

pub in_turn :
    {one two r s : Bool} {refs more before between after : List ℕ} → Counted one refs before between r → Counted two more between after s →
    Counted (one && two) (refs ++ more) before after (r && s)
in_turn {r = r} {s = s} f g = record {
  is = rw (f.is, g.is);
  uses = λ q. rw (uses-append, ← f.uses (and_left r s q)) (g.uses (and_right r s q));
}

-- ---- places in a row
module _ {ok : ℕ → Bool} {refs : ℕ → List ℕ} {before : List ℕ} where
  pub walk_none : Walked ok refs 0 before before None
  unfolding first_bad refs_below uses_in
  walk_none = record { is = refl; uses = λ h. refl }

  -- the smallest place that fails of n places is that of more places too; nothing is said of the counts
  walk_at : {n count p : ℕ} {after : List ℕ} → first_bad ok n ≡ Some p → n ≤ count → Walked ok refs count before after (Some p)
  walk_at {n} {count} {p} e l =
      let s = first_bad-smallest ok n p e in
      record {
        is = sym (smallest-first_bad ok count p (record { below = omega (arith, s.below); fails = s.fails; earlier = s.earlier }));
        uses = λ h. let z : ◌≡◌ {A = ℕ} 0 1 = cc in absurd (omega arith);
      }

  pub walk_longer : {n count p : ℕ} {counts after : List ℕ} → Walked ok refs n before counts (Some p) → n ≤ count → Walked ok refs count before after (Some p)
  walk_longer w l = walk_at (sym w.is) l

  -- one place more
  module _ {n : ℕ} {counts after : List ℕ} {r : Bool} (w : Walked ok refs n before counts None) (c : Counted (ok n) (refs n) counts after r) where
    pub walk_next : r ≡ true → Walked ok refs (n + 1) before after None
    unfolding first_bad or_else unless refs_below
    walk_next h = record { is = rw (add-one, ← w.is, ← c.is, h); uses = λ q. rw (add-one, uses-append, ← w.uses refl) (c.uses h) }

    pub walk_stop : {count : ℕ} → r ≡ false → n < count → Walked ok refs count before after (Some n)
    unfolding first_bad or_else unless
    walk_stop h l = walk_at {n = suc n} (rw (← w.is, ← c.is, h)) l
