-- A search by halves, for the first place below n at which a test fails that holds up to some place and fails from there on. A loop that makes
-- it has the invariant `Halved f n low high` and the measure high - low, begins with low 0 and high n, and goes on by:
--     halve-up      the test holds at m: low goes to m + 1
--     halve-down    the test fails at m: high goes to m
--     halved        low has come to high: there is the place, where it is below n
-- The code's m is the place in the middle, which is below high.
-- Assumes nothing.
use Prim.Native.Nat.{ℕ, ◌+◌, ◌<◌, ◌≤◌}
use mathlib.Core.Path.{◌≡◌, refl, sym, ◌∙◌}
use mathlib.Core.Bool.{Bool, true, false}
use mathlib.Core.Logic.{⊎_elim}
use native.Mathlib.Nat.{eq-or-lt_of_le}
use native.Mathlib.Omega.{arith}
use borrow.Author.Tests.{ltb-true, ltb-false}
use lib.Dec.{ltb}
use Rattle.words.specs.First.{first_bad}
use Rattle.words.proofs.FirstLaws.{none-first_bad, smallest-first_bad}
use Rattle.std.specs.Prelude.{Option}
use Rattle.std.specs.Bool.{then_some}

-- where the test holds, it holds at each place before
abbrev pub Falls : (ℕ → Bool) → ℕ → Type 0
Falls f n = (i j : ℕ) → i < j → j < n → f j ≡ true → f i ≡ true

pub record Halved (f : ℕ → Bool) (n low high : ℕ) : Type 0 where
  pub order : low ≤ high
  pub within : high ≤ n
  pub lower : (j : ℕ) → j < low → f j ≡ true
  pub upper : (j : ℕ) → high ≤ j → j < n → f j ≡ false

module _ {f : ℕ → Bool} {n low high : ℕ} (m : ℕ) (s : Halved f n low high) (falls : Falls f n) (l : m < high) where
  pub halve-up : f m ≡ true → Halved f n (m + 1) high
  halve-up e =
      record {
        order = omega arith;
        within = s.within;
        lower = λ j h. ⊎_elim (λ (q : j ≡ m). rw q e) (λ lt. falls j m lt (omega (arith, s.within)) e) (eq-or-lt_of_le (omega arith));
        upper = s.upper;
      }

  pub halve-down : low ≤ m → f m ≡ false → Halved f n low m
  halve-down g e = record { order = g; within = omega (arith, s.within); lower = s.lower; upper = λ j h k. from j h k (f j) refl }
    where
      from : (j : ℕ) → m ≤ j → j < n → (b : Bool) → f j ≡ b → b ≡ false
      from j h k true q = ⊎_elim (λ (r : m ≡ j). sym q ∙ rw (sym r) e) (λ lt. sym (falls m j lt k q) ∙ e) (eq-or-lt_of_le h)
      from j h k false q = refl

-- k is n as the code has it
pub halved : {f : ℕ → Bool} {n low high k : ℕ} {found : Option ℕ} → Halved f n low high → high ≤ low → k ≡ n → found ≡ then_some (ltb low k) low
    → found ≡ first_bad f n
halved {f} {n} {low} {high} {k} s met e is = is ∙ by (ltb low k) refl
  where
    by : (b : Bool) → ltb low k ≡ b → then_some b low ≡ first_bad f n
    by true q =
        let below = ltb-true low k q in
        sym (smallest-first_bad f n low record { below = omega arith; fails = s.upper low met (omega arith); earlier = s.lower })
    by false q = let past = ltb-false low k q in sym (none-first_bad f n (λ j h. s.lower j (omega arith)))
