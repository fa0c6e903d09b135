-- Facts about tests that are used everywhere.
-- Assumes nothing.
use mathlib.Core.Path.{◌≡◌, refl, sym, subst, ◌∙◌}
use mathlib.Core.Bool.{Bool, true, false, not, ◌&&◌, ◌||◌}
use lib.Dec.{T}
use borrow.Author.Tests.{not-true, not-false}

pub clash : {X : Type 0} → true ≡ false → X
clash e = absurd (subst T e tt)

-- ---- both
pub and-true : {a b : Bool} → a ≡ true → b ≡ true → a && b ≡ true
and-true p q = rw (p, q)

pub and_left : (a b : Bool) → a && b ≡ true → a ≡ true
and_left true b e = refl
and_left false b e = e

pub and_right : (a b : Bool) → a && b ≡ true → b ≡ true
and_right true b e = e
and_right false b e = clash (sym e)

pub and-false : (a : Bool) → a && false ≡ false
and-false true = refl
and-false false = refl

-- ---- either
pub or_left : {a : Bool} (b : Bool) → a ≡ true → a || b ≡ true
or_left b e = rw e

pub or_right : (a : Bool) {b : Bool} → b ≡ true → a || b ≡ true
or_right true e = refl
or_right false e = e

pub or_cases : {X : Type 0} (a b : Bool) → a || b ≡ true → (a ≡ true → X) → (b ≡ true → X) → X
or_cases true b e f g = f refl
or_cases false b e f g = g e

-- ---- a test that a call computed, and the branch on it
pub holds : {r b : Bool} → r ≡ b → r ≡ true → b ≡ true
holds e q = sym e ∙ q

pub fails : {r b : Bool} → r ≡ b → r ≡ false → b ≡ false
fails e q = sym e ∙ q

pub fails-not : {r b : Bool} → r ≡ b → not r ≡ true → b ≡ false
fails-not {r} e q = sym e ∙ not-true r q

pub holds_not : {r b : Bool} → r ≡ b → not r ≡ false → b ≡ true
holds_not {r} e q = sym e ∙ not-false r q
