-- Lists made of a function: a list itself, its front, and a list where one value is another.
-- Assumes nothing.
use Rattle.std.proofs.Common.{◌≡◌, ℕ, zero, suc, ◌<◌, ◌≤◌, Bool, List, length, get_or, set, take, replicate, refl, sym, ◌∙◌, arith}
use Rattle.std.proofs.lemmas.List.{ext_get_or, get_or-take, length-take-le, get_or-set_same, get_or-set_other, length-set, get_or-replicate, length-replicate}
use native.Mathlib.Decide.{ℕ_discrete}
use Rattle.words.specs.Tabulate.{tabulate}
use Rattle.words.proofs.FillLaws.{length-tabulate, get_d_tabulate}

pub tabulate-equal : {A : Type 0} (f : ℕ → A) (n : ℕ) (x : A) → ((i : ℕ) → i < n → f i ≡ x) → tabulate f n ≡ replicate n x
tabulate-equal f n x each =
    let long = length-tabulate f n in
    ext_get_or x (tabulate f n) (replicate n x) (long ∙ sym (length-replicate n x)) (λ i b.
    let below : i < n = omega arith in
    get_d_tabulate f n i x below ∙ each i below ∙ sym (get_or-replicate n i x x below))

module _ {A : Type 0} (l : List A) (n : ℕ) (d : A) where
  pub tabulate-front : n ≤ length l → tabulate (λ i. get_or l i d) n ≡ take n l
  tabulate-front h =
      let f : ℕ → A = λ i. get_or l i d in
      let long = length-tabulate f n in
      ext_get_or d (tabulate f n) (take n l) (long ∙ sym (length-take-le n l h)) (λ i b.
      let below : i < n = omega arith in
      get_d_tabulate f n i d below ∙ sym (get_or-take n l i d below))

  pub tabulate-list : length l ≡ n → tabulate (λ i. get_or l i d) n ≡ l
  tabulate-list h =
      let f : ℕ → A = λ i. get_or l i d in
      let long = length-tabulate f n in
      ext_get_or d (tabulate f n) l (long ∙ sym h) (λ i b. get_d_tabulate f n i d (omega arith))

  -- where f gives what the list has, except at v
  pub tabulate-one : (f : ℕ → A) (v : ℕ) → length l ≡ n → v < n → ((i : ℕ) → i < n → (i ≡ v → ⊥) → f i ≡ get_or l i d) → tabulate f n ≡ set l v (f v)
  tabulate-one f v h low other =
      let long = length-tabulate f n in
      ext_get_or d (tabulate f n) (set l v (f v)) (long ∙ sym (length-set l v (f v) ∙ h)) (λ i b.
      let below : i < n = omega arith in
      get_d_tabulate f n i d below ∙ elim (ℕ_discrete i v) [
        | yes q ↦ rw q (sym (get_or-set_same l v (f v) d (omega arith)))
        | no k ↦ other i below k ∙ sym (get_or-set_other l v i (f v) d k)
      ])
