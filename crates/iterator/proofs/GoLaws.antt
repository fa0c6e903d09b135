-- What the fields of a point name, and the held sets that a lock and an unlock bring, where the table passed.
-- Assumes nothing.
use Rattle.std.proofs.Common.{◌≡◌, ℕ, ◌+◌, ◌-◌, ◌^◌, ◌<◌, true, false, List, ℤ, sym, ap, subst, ◌∙◌, arith}
use Rattle.table.specs.Layout.{sizes_of, points_of}
use Rattle.table.specs.Decode.{point_of}
use Rattle.table.specs.Passes.{FormedPoint}
use Rattle.table.specs.declared.checked.Table.{Table}
use Rattle.table.specs.declared.Point.{Point}
use Rattle.table.specs.declared.Point.TheVariants.{Lock, Unlock}
use Rattle.table.proofs.PassLaws.{passes}
use Rattle.rules.specs.Held.{has_of}
use Rattle.rules.proofs.SetLaws.{with-set, without-set}
use Rattle.proposer.specs.Walk.{sets_of}
use Rattle.iterator.proofs.TableLaws.{mutexes_few}

-- ---- x stands at the point p
module _ (t : Table) {p : ℕ} (below : p < (sizes_of t.words.now).points) where
  pub formed-at : {x : Point} → point_of (points_of t.words.now) p ≡ x → FormedPoint t.words.now p x
  formed-at stands = subst (λ (y : Point). FormedPoint t.words.now p y) stands ((passes t.words.now t.checked).point p below)

  -- as code read it
  pub stands : {x : Point} → x ≡ point_of t.points.now p → point_of (points_of t.words.now) p ≡ x
  stands read = sym (read ∙ ap (λ (l : List ℤ). point_of l p) t.cut.points)

  pub formed : {x : Point} → x ≡ point_of t.points.now p → FormedPoint t.words.now p x
  formed read = formed-at (stands read)

  pub lock_few : {m q : ℕ} → Lock m q ≡ point_of t.points.now p → m < 8
  unfolding FormedPoint
  lock_few read = omega (arith, (formed read).0, mutexes_few t.words.now t.checked)

  pub unlock_few : {m q : ℕ} → Unlock m q ≡ point_of t.points.now p → m < 8
  unfolding FormedPoint
  unlock_few read = omega (arith, (formed read).0, mutexes_few t.words.now t.checked)

-- ---- sets
module _ (t : List ℤ) (s m : ℕ) (set : s < sets_of t) (mutex : m < (sizes_of t).mutexes) where
  pub added : has_of s m ≡ false → s + 2 ^ m < sets_of t
  added e = rw e at (with-set s m (sizes_of t).mutexes set mutex)

  pub taken : has_of s m ≡ true → s - 2 ^ m < sets_of t
  taken e = rw e at (without-set s m (sizes_of t).mutexes set)
