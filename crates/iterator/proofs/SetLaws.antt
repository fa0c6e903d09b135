-- Sets of mutexes, and the numbers of marks and of heads that there are for them.
-- Assumes nothing.
use Rattle.std.proofs.Common.{◌≡◌, ℕ, ◌*◌, ◌%◌, ◌^◌, ◌<◌, ◌≤◌, Bool, true, false, not, ◌&&◌, List, ℤ, refl, subst, ◌∙◌, arith}
use Rattle.std.proofs.Math.Nat.{mul-le-mul, zero-add}
use Rattle.std.proofs.lemmas.Nat.{one_shl, pow_pos}
use native.Mathlib.Decide.{ℕ_discrete}
use Rattle.words.proofs.Bools.{and-false}
use Rattle.words.proofs.FirstLaws.{each-all_below, fails-at}
use Rattle.words.specs.Stages.{passed}
use Rattle.table.specs.Layout.{sizes_of}
use Rattle.table.specs.Validate.{validate_of}
use Rattle.rules.specs.Held.{has_of, with_of, disjoint_of}
use Rattle.rules.proofs.SetLaws.{few-small, has-none, has-with, has-with-other}
use Rattle.proposer.specs.Walk.{sets_of, mark_at, mark_count}
use Rattle.proposer.proofs.CodeLaws.{pair-below}
use Rattle.proposer.proofs.SlotLaws.{code_below}
use Rattle.iterator.specs.Plan.{code_count}
use Rattle.iterator.proofs.TableLaws.{tasks_few, variables_few, mutexes_few, points_few}

pub shifted : (m : ℕ) → m ≤ 8 → 1 * 2 ^ m % 18446744073709551616 ≡ 2 ^ m
shifted m h = one_shl m 64 (omega arith)

pub some_set : (m : ℕ) → 0 < 2 ^ m
some_set m = pow_pos m

-- ---- one mutex as a set
alone-is : (m : ℕ) → with_of 0 m ≡ 2 ^ m
alone-is m = rw (has-none m) (zero-add (2 ^ m))

alone_has : (m : ℕ) → has_of (2 ^ m) m ≡ true
alone_has m = subst (λ (s : ℕ). has_of s m ≡ true) (alone-is m) (has-with 0 m)

alone-other : (m k : ℕ) → (k ≡ m → ⊥) → has_of (2 ^ m) k ≡ false
alone-other m k d = subst (λ (s : ℕ). has_of s k ≡ false) (alone-is m) (has-with-other 0 m k d ∙ has-none k)

pub disjoint-one : (s m : ℕ) → m < 8 → disjoint_of s (2 ^ m) ≡ not (has_of s m)
disjoint-one s m l = by (has_of s m) refl
  where
    by : (b : Bool) → has_of s m ≡ b → disjoint_of s (2 ^ m) ≡ not b
    by true e = fails-at (λ k. not (has_of s k && has_of (2 ^ m) k)) 8 m l (rw (e, alone_has m))
    by false e = each-all_below (λ k. not (has_of s k && has_of (2 ^ m) k)) 8 (λ k _. elim (ℕ_discrete k m) [
      | yes q ↦ rw (q, e)
      | no d ↦ rw (alone-other m k d, and-false (has_of s k))
    ])

pub ruleset asked = (disjoint-one)

-- ---- of a table
module _ (t : List ℤ) where
  pub mark_below : (p s : ℕ) → p < (sizes_of t).points → s < sets_of t → mark_at t p s < mark_count t
  mark_below p s h l = pair-below p s (sizes_of t).points (sets_of t) h l

  module _ (e : validate_of t ≡ passed) where
    pub sets_few : sets_of t ≤ 256
    sets_few = few-small _ (mutexes_few t e)

    pub marks_few : mark_count t ≤ 65536
    marks_few = mul-le-mul (points_few t e) sets_few

    pub fronts_few : (sizes_of t).tasks * sets_of t ≤ 2048
    fronts_few = mul-le-mul (tasks_few t e) sets_few

    pub heads_few : code_count t ≤ 32768
    heads_few = mul-le-mul fronts_few (variables_few t e)

pub ruleset sets = (shifted, few-small, mark_below, code_below, marks_few, fronts_few, heads_few)
