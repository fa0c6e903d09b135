-- Lists by their places.
--     at_each         what holds of a new element at its place, and of the others at theirs, holds at each
--     at-tabulate     what holds of each value of a function, and of the default, holds at each place of its list
-- Assumes nothing.
use Prim.Native.Nat.{ℕ, ◌<◌, ◌≤◌}
use mathlib.Core.Path.{◌≡◌, sym, subst}
use mathlib.Core.List.{List}
use native.Mathlib.Decide.{ℕ_discrete, dec_lt}
use native.Mathlib.Omega.{arith}
use lib.ListN.{length, get_or, set, get_or-eq_default}
use lib.Seq.{get_or-set_same, get_or-set_other}
use Rattle.words.specs.Tabulate.{tabulate}
use Rattle.words.proofs.FillLaws.{length-tabulate, get_d_tabulate}

module _ {A : Type 0} where
  pub at_each : (P : ℕ → A → Type 0) (l : List A) (u : ℕ) (q d : A) → u < length l → P u q → ((x : ℕ) → (x ≡ u → ⊥) → P x (get_or l x d))
      → (x : ℕ) → P x (get_or (set l u q) x d)
  at_each P l u q d h p rest x = elim (ℕ_discrete x u) [
    | yes e ↦ subst (λ (k : ℕ). P k (get_or (set l u q) k d)) (sym e) (subst (λ (y : A). P u y) (sym (get_or-set_same l u q d h)) p)
    | no n ↦ subst (λ (y : A). P x y) (sym (get_or-set_other l u x q d n)) (rest x n)
  ]

  pub tabulate-past : (f : ℕ → A) (n i : ℕ) (d : A) → n ≤ i → get_or (tabulate f n) i d ≡ d
  tabulate-past f n i d h = get_or-eq_default (tabulate f n) d {n = i} (omega (arith, length-tabulate f n))

  pub at-tabulate : (P : ℕ → A → Type 0) (f : ℕ → A) (n : ℕ) (d : A) → ((i : ℕ) → i < n → P i (f i)) → ((i : ℕ) → n ≤ i → P i d) → (i : ℕ) → P i (get_or (tabulate f n) i d)
  at-tabulate P f n d low high i = elim (dec_lt i n) [
    | yes l ↦ subst (λ (x : A). P i x) (sym (get_d_tabulate f n i d l)) (low i l)
    | no l ↦ let le : n ≤ i = omega arith in subst (λ (x : A). P i x) (sym (tabulate-past f n i d le)) (high i le)
  ]
