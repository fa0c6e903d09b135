-- A test at some place, `some_below f n`, where it can hold at one place only, or at none.
-- Assumes nothing.
use Prim.Native.Nat.{ℕ, ◌<◌}
use mathlib.Core.Path.{◌≡◌, refl, sym, subst, ◌∙◌}
use mathlib.Core.Bool.{Bool, true, false}
use Rattle.words.specs.First.{some_below}
use Rattle.words.proofs.FirstLaws.{some_below-one, one-some_below}

pub only-some_below : (f : ℕ → Bool) (n k : ℕ) → k < n → ((j : ℕ) → j < n → f j ≡ true → j ≡ k) → f k ≡ some_below f n
only-some_below f n k l only = by (f k) refl (some_below f n) refl
  where
    by : (a : Bool) → f k ≡ a → (b : Bool) → some_below f n ≡ b → a ≡ b
    by true e true q = refl
    by true e false q = sym (one-some_below f n k l e) ∙ q
    by false e true q = let s = some_below-one f n q in sym e ∙ subst (λ (j : ℕ). f j ≡ true) (only s.0 s.1 s.2) s.2
    by false e false q = refl

pub none-some_below : (f : ℕ → Bool) (n : ℕ) → ((j : ℕ) → j < n → f j ≡ false) → false ≡ some_below f n
none-some_below f n none = by (some_below f n) refl
  where
    by : (b : Bool) → some_below f n ≡ b → false ≡ b
    by true q = let s = some_below-one f n q in sym (none s.0 s.1) ∙ s.2
    by false q = refl
