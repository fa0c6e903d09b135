-- The walk over the points of a range that settles rules 12, 13 and 14 and marks the alarms. Its loop has the invariant `Walked`, p the loop's counter:
--     walk          where the loop begins
--     walks         one point more: the invariant at p + 1
-- Assumes nothing.
use Prim.Native.Nat.{ℕ, zero, suc, ◌+◌, ◌<◌, ◌≤◌}
use mathlib.Core.Path.{◌≡◌, refl, ap, subst, ◌∙◌}
use mathlib.Core.Bool.{Bool}
use mathlib.Core.List.{List, [], ◌∷◌}
use native.Mathlib.Nat.{le_antisymm}
use native.Mathlib.Numerals.{add-one}
use native.Mathlib.Omega.{arith}
use borrow.Author.Tests.{lt-ltb, le-ltb}
use lib.IntN.{ℤ}
use lib.ListN.{length, set, length-set}
use Rattle.words.specs.First.{first_bad, or_else, unless}
use Rattle.analysis.specs.declared.Alarm.{Alarm}
use Rattle.analysis.specs.Alarms.{place_of, marked_of}
use Rattle.analysis.proofs.AlarmLaws.{marked_append}
use Rattle.rules.specs.declared.Fits.{Fits}
use Rattle.rules.specs.declared.Faults.{Faults}
use Rattle.rules.specs.Rules.{rule12, rule13, rule14}
use Rattle.rules.specs.Alarms.{alarms_if, alarms_at, alarms_in}
use Rattle.words.specs.First.{places, first_bad_in}
use Rattle.rules.specs.Points.{fits_at, fault_or, faults_of}
use Rattle.words.proofs.PlaceLaws.{seek, unfound}
use Rattle.std.specs.Prelude.{None}

-- ---- one place more, and none
in-more : (f : ℕ → Bool) (from p : ℕ) → from ≤ p → first_bad_in f (places from (p + 1)) ≡ or_else (first_bad_in f (places from p)) (unless (f p) p)
unfolding first_bad_in first_bad
in-more f from p h = rw (add-one, le-ltb p from h)

in-none : (f : ℕ → Bool) (from : ℕ) → None ≡ first_bad_in f (places from from)
in-none f from = unfound (seek {f = f} {from = from}) (omega arith)

module _ (t w : List ℤ) (from : ℕ) where
  faults-none : record { locks = None; flow = None; write = None } ≡ faults_of t w from from
  unfolding faults_of
  faults-none = rw (← in-none (rule12 t w) from, ← in-none (rule13 t w) from, ← in-none (rule14 t w) from)

  faults-more : (p : ℕ) → from ≤ p → faults_of t w from (p + 1) ≡ fault_or (faults_of t w from p) (fits_at t w p) p
  unfolding faults_of fault_or fits_at
  faults-more p h = rw (in-more (rule12 t w) from p h, in-more (rule13 t w) from p h, in-more (rule14 t w) from p h)

  -- no alarm is of a point before the range
  alarms-before : (p : ℕ) → p ≤ from → alarms_in t w from p ≡ []
  unfolding alarms_in alarms_if
  alarms-before zero h = refl
  alarms-before (suc p) h = rw (alarms-before p (omega arith), lt-ltb p from (omega arith))

  marked_more : (m : List ℕ) (p : ℕ) → from ≤ p
      → marked_of m (alarms_in t w from (p + 1)) ≡ marked_of (marked_of m (alarms_in t w from p)) (alarms_at t w p)
  unfolding alarms_in alarms_if
  marked_more m p h = rw (add-one, le-ltb p from h) (marked_append m _ _)

-- ---- the walk, as far as p: m are the marks before it
pub record Walked (t w : List ℤ) (from p : ℕ) (m : List ℕ) (found : Faults) (marks : List ℕ) : Type 0 where
  pub faults : found ≡ faults_of t w from p
  pub marked : marks ≡ marked_of m (alarms_in t w from p)

module _ {t w : List ℤ} {from : ℕ} {m : List ℕ} where
  pub walk : Walked t w from from m (record { locks = None; flow = None; write = None }) m
  unfolding marked_of
  walk = record { faults = faults-none t w from; marked = rw (alarms-before t w from from (omega arith)) }

  pub walks :
      {p : ℕ} {found found' : Faults} {marks marks' : List ℕ} {x : Fits} → Walked t w from p m found marks → from ≤ p → x ≡ fits_at t w p
      → found' ≡ fault_or found x p → marks' ≡ marked_of marks (alarms_at t w p) → Walked t w from (p + 1) m found' marks'
  walks {p} s l e f g = record { faults = f ∙ rw (s.faults, e, faults-more t w from p l); marked = g ∙ rw (s.marked, marked_more t w from m p l) }
