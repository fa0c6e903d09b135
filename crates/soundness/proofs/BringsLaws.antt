-- A step that is possible has an outcome: among those that the check looks at is one whose row holds the values after it.
-- Assumes nothing.
use Prim.Native.Nat.{ℕ}
use mathlib.Core.Path.{◌≡◌, sym}
use mathlib.Core.Bool.{Bool, true, false}
use mathlib.Core.List.{List, [], ◌∷◌, ◌++◌}
use lib.IntN.{ℤ}
use Rattle.words.proofs.Bools.{clash, and_left, and_right}
use Rattle.analysis.specs.declared.Row.{Row}
use Rattle.analysis.specs.Rows.{Inside, Kept}
use Rattle.rules.specs.Outcomes.{Outcome, outcome_if, only_if}
use Rattle.rules.specs.Rules.{all_outcomes}
use Rattle.std.specs.Prelude.{None, Option, Some}

-- o is one of the outcomes
pub data In (o : Outcome) : List Outcome → Type 0 where
  here : {l : List Outcome} → In o (o ∷ l)
  later : {x : Outcome} {l : List Outcome} → In o l → In o (x ∷ l)

pub all_in : {o : Outcome} {l : List Outcome} (f : Outcome → Bool) → In o l → all_outcomes f l ≡ true → f o ≡ true
unfolding all_outcomes
all_in {o} f (here {l}) e = and_left (f o) (all_outcomes f l) e
all_in f (later {x} {l} i) e = all_in f i (and_right (f x) (all_outcomes f l) e)

in_left : {o : Outcome} {l : List Outcome} (m : List Outcome) → In o l → In o (l ++ m)
in_left m here = here
in_left m (later i) = later (in_left m i)

in_right : {o : Outcome} (l : List Outcome) {m : List Outcome} → In o m → In o (l ++ m)
in_right [] i = i
in_right (x ∷ l) i = later (in_right l i)

-- one of the outcomes l goes to q with the held set s, and its row holds the values vs
pub record Brings (l : List Outcome) (q s : ℕ) (vs : List ℤ) : Type 0 where
  pub row : Row
  pub one : In (record { target = q; held = s; row = row }) l
  pub inside : Inside vs row

module _ {q s : ℕ} {vs : List ℤ} where
  pub brings-if : (m : Option Row) → Kept vs m → Brings (outcome_if m s q) q s vs
  unfolding outcome_if
  brings-if None k = absurd k
  brings-if (Some r) k = record { row = r; one = here; inside = k }

  pub brings-only : (b : Bool) (l : List Outcome) → b ≡ true → Brings l q s vs → Brings (only_if b l) q s vs
  unfolding only_if
  brings-only true l e h = h
  brings-only false l e h = clash (sym e)

  pub brings-left : (l m : List Outcome) → Brings l q s vs → Brings (l ++ m) q s vs
  brings-left l m h = record { row = h.row; one = in_left m h.one; inside = h.inside }

  pub brings-right : (l m : List Outcome) → Brings m q s vs → Brings (l ++ m) q s vs
  brings-right l m h = record { row = h.row; one = in_right l h.one; inside = h.inside }
