-- An array that `from_fn` makes of a closure which gives a function's values, as the list of these.
-- Assumes nothing.
use Prim.Native.Nat.{ℕ, zero, suc, ◌+◌, ◌<◌, ◌≤◌}
use mathlib.Core.Path.{◌≡◌, sym, subst, ◌∙◌}
use mathlib.Core.Logic.{⊎_elim}
use mathlib.Core.List.{List}
use native.Mathlib.Nat.{eq-or-lt_of_le}
use native.Mathlib.Omega.{arith}
use lib.ListN.{length, get_or}
use lib.Seq.{ext_get_or}
use denote.Param.Members.{Mut, Called}
use Rattle.std.specs.Array.{IsFromFnResult, IsFromFnResultFrom}
use Rattle.words.specs.Tabulate.{tabulate}
use Rattle.words.proofs.FillLaws.{length-tabulate, get_d_tabulate}

module _
    {F A : Type 0} (g : Mut F (ℕ × Unit {0}) A) (f : F) (value : ℕ → A)
    (gives : (i : ℕ) (y : A) (q : F) → Called g f (i, tt) y q → (y ≡ value i) × (q ≡ f)) where
  each : (ys : List A) (n i : ℕ) → IsFromFnResultFrom g f ys i n → (j : ℕ) (d : A) → i ≤ j → j < i + n → get_or ys j d ≡ value j
  each ys zero i h j d l k = absurd (omega arith)
  each ys (suc n) i h j d l k =
      let given = gives i h.1 h.0 h.3 in
      let rest : IsFromFnResultFrom g f ys (i + 1) n = subst (λ q. IsFromFnResultFrom g q ys (i + 1) n) given.1 h.4 in
      ⊎_elim (λ e. rw (← e) (h.2.1 d ∙ given.0)) (λ lt. each ys n (i + 1) rest j d (omega arith) (omega arith)) (eq-or-lt_of_le l)

  pub made : (ys : List A) (n : ℕ) → IsFromFnResult g f ys n → ys ≡ tabulate value n
  made ys n h =
      ext_get_or (value 0) ys (tabulate value n) (h.long ∙ sym (length-tabulate value n))
      (λ j b. let k : j < n = omega (arith, h.long) in each ys n 0 h.each j (value 0) (omega arith) (omega arith) ∙ sym (get_d_tabulate value n j (value 0) k))
