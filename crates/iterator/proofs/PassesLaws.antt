-- Passes as a loop makes them, one after another until one changes nothing: what is left of `made_from` after n of them is all that there is to be made.
--     making, makes         where the loop begins, and after a pass that changed something
--     made-last, made_all   after one that changed nothing, and where n has come to the most that there can be
-- Assumes nothing.
use Prim.Native.Nat.{ℕ, suc, ◌+◌, ◌-◌, ◌<◌, ◌≤◌}
use mathlib.Core.Path.{◌≡◌, refl, sym, ap, ◌∙◌}
use mathlib.Core.Bool.{Bool, true, false}
use native.Mathlib.Nat.{sub-zero}
use native.Mathlib.Numerals.{add-one}
use native.Mathlib.Omega.{arith}
use Rattle.proposer.specs.Passes.{State, moved_of, Made, made_if, made_from}

abbrev pub made : State → ℕ → Made
made s n = record { state = s; passes = n }

pub record Making (pass : State → State) (most : ℕ) (from s : State) (n : ℕ) : Type 0 where
  pub within : n ≤ most
  pub left : made_from pass (most - n) s n ≡ made_from pass most from 0

pub making : {pass : State → State} {most : ℕ} {from : State} → Making pass most from from 0
making {most = most} = record { within = omega arith; left = rw (sub-zero most) refl }

-- one more pass gives s'
one_more : (pass : State → State) (most n : ℕ) (s s' : State) (b : Bool) → n < most → s' ≡ pass s → moved_of s' ≡ b
    → made_from pass (most - n) s n ≡ made_if b (made_from pass (most - (n + 1)) s' (n + 1)) (made s' (n + 1))
unfolding made_from
one_more pass most n s s' b l e m =
    let fewer : most - n ≡ suc (most - (n + 1)) = omega arith in
    rw (fewer, add-one n, ← m, e) refl

pub makes : {pass : State → State} {most n : ℕ} {from s s' : State} → Making pass most from s n → n < most → s' ≡ pass s → moved_of s' ≡ true
    → Making pass most from s' (n + 1)
unfolding made_if
makes {pass} {most} {n} {from} {s} {s'} h l e m = record { within = omega arith; left = sym (one_more pass most n s s' true l e m) ∙ h.left }

pub made-last : {pass : State → State} {most n : ℕ} {from s s' : State} → Making pass most from s n → n < most → s' ≡ pass s → moved_of s' ≡ false
    → made s' (n + 1) ≡ made_from pass most from 0
unfolding made_if
made-last {pass} {most} {n} {from} {s} {s'} h l e m = sym (one_more pass most n s s' false l e m) ∙ h.left

pub made_all : {pass : State → State} {most n : ℕ} {from s : State} → Making pass most from s n → most ≤ n → made s n ≡ made_from pass most from 0
unfolding made_from
made_all {pass} {most} {n} {from} {s} h l =
    let none : most - n ≡ 0 = omega arith in
    sym (ap (λ (k : ℕ). made_from pass k s n) none) ∙ h.left
