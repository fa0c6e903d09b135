-- What is said of every way in which an evaluation can end (P of what it gives, Q of the node and kind of the error that stops it) and stays so when
-- another evaluation follows. No law speaks of an equation `result .. ≡ gives ..`: the induction over trees goes through without one.
-- Assumes nothing.
use Prim.Native.Nat.{ℕ}
use mathlib.Core.Path.{◌≡◌, refl}
use mathlib.Core.Bool.{Bool, true, false}
use lib.IntN.{ℤ}
use Rattle.interval.specs.Arithmetic.{is_word}
use Rattle.table.specs.Meaning.{Evaluation, gives, stops, followed_by, fit_by, fit}

abbrev pub EndsWith : {A : Type 0} → (A → Type 0) → (ℕ → ℕ → Type 0) → Evaluation A → Type 0
EndsWith P Q (gives z p) = P z
EndsWith P Q (stops n k p) = Q n k

-- every error so far is one of the whole
abbrev pub Sub : (ℕ → ℕ → Type 0) → (ℕ → ℕ → Type 0) → Type 0
Sub Q R = (n k : ℕ) → Q n k → R n k

-- one evaluation after another
pub followed :
    {A B : Type 0} (P : A → Type 0) (P' : B → Type 0) (Q Q' : ℕ → ℕ → Type 0) (e : Evaluation A) (f : A → ℕ → Evaluation B)
    → EndsWith P Q e → ((z : A) (p : ℕ) → P z → EndsWith P' Q' (f z p)) → Sub Q Q' → EndsWith P' Q' (followed_by e f)
unfolding followed_by
followed P P' Q Q' (gives z p) f h g s = g z p h
followed P P' Q Q' (stops n k p) f h g s = s n k h

-- the same evaluation, of which less is said
pub ends-mono : {A : Type 0} (P P' : A → Type 0) (Q Q' : ℕ → ℕ → Type 0) (e : Evaluation A) → EndsWith P Q e → ((z : A) → P z → P' z) → Sub Q Q' → EndsWith P' Q' e
ends-mono P P' Q Q' (gives z p) h g s = g z h
ends-mono P P' Q Q' (stops n k p) h g s = s n k h

-- ---- an exact result: a word, or an overflow
pub fit-ends : (P : ℤ → Type 0) (Q : ℕ → ℕ → Type 0) (n : ℕ) (z : ℤ) (p : ℕ) → (is_word z ≡ true → P z) → (is_word z ≡ false → Q n 1) → EndsWith P Q (fit n z p)
unfolding fit fit_by
fit-ends P Q n z p = by (is_word z)
  where
    by : (t : Bool) → (t ≡ true → P z) → (t ≡ false → Q n 1) → EndsWith P Q (fit_by t n z p)
    by true f g = f refl
    by false f g = g refl
