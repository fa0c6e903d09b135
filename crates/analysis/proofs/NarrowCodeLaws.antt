-- The variable that a cut is carried back to, by the kind of a node; and what two cuts come to that are put in place or joined.
-- Assumes nothing.
use Prim.Native.Nat.{ℕ, ◌<◌, ◌≤◌}
use mathlib.Core.Path.{◌≡◌, refl, ◌∙◌}
use mathlib.Core.List.{List}
use borrow.Author.Tests.{lt-ltb, le-ltb}
use lib.Dec.{eqb}
use lib.IntN.{ℤ}
use lib.ListN.{length}
use Rattle.interval.specs.declared.Cuts.{Cuts}
use Rattle.interval.specs.declared.Interval.{Interval}
use Rattle.table.specs.Decode.{shape_by, shape_of}
use Rattle.table.specs.Tree.{arith_by, arith_at, cond_at}
use Rattle.table.proofs.KindLaws.{shape-all}
use Rattle.table.proofs.TreeLaws.{arith-of}
use Rattle.analysis.specs.Rows.{Row, then_row, put_of}
use Rattle.analysis.specs.Cuts.{variable_or, cut_row_of, met_if}
use Rattle.analysis.proofs.NodeTreeLaws.{variable_at}
use Rattle.analysis.proofs.CutLaws.{cut-written, cut-first-none}
use Rattle.std.specs.Prelude.{None, Option, Some}

-- ---- the variable that a node is, by its kind
module _ (ns : List ℤ) (n p k : ℕ) (x y : ℤ) (a b c : ℕ) (e : shape_of ns n ≡ shape_by n k x y a b c) where
  pub variable_slot : k ≡ 2 → a < 16 → a ≡ variable_or p (arith_at ns n)
  unfolding variable_or
  variable_slot h l = rw (variable_at ns n k x y a b c e h, lt-ltb a 16 l)

  pub variable_past : k ≡ 2 → 16 ≤ a → p ≡ variable_or p (arith_at ns n)
  unfolding variable_or
  variable_past h l = rw (variable_at ns n k x y a b c e h, le-ltb a 16 l)

  pub variable_none : (k ≡ 2 → ⊥) → p ≡ variable_or p (arith_at ns n)
  unfolding arith_by variable_or
  variable_none h =
      rw (arith-of ns n e) (shape-all (λ s. p ≡ variable_or p (arith_by (arith_at ns) (cond_at ns) n s)) n k x y a b c (record {
        constant = λ e. refl;
        input = λ e. refl;
        variable = λ e. absurd (h e);
        negation = λ e l. refl;
        binary = λ op o l. refl;
        choice = λ e l. refl;
        comparison = λ q l m o. refl;
        both = λ e l. refl;
        either = λ e l. refl;
        is_not = λ e l. refl;
        bad = refl;
      }))

pub ruleset variables = (variable_slot, variable_past, variable_none)

-- ---- the cuts of a row: the first, and then what the second comes to with it
pub cuts_are : (r : Row) → length r.lows ≡ 16 → length r.highs ≡ 16 → (v w : ℕ) (u : Cuts) → (v ≡ w → v < 16)
    → cut_row_of r v w u ≡ then_row (put_of r v u.left) (λ q. put_of q w (met_if (eqb v w) u.left u.right))
unfolding then_row put_of
cuts_are r l h v w u slots = by u.left refl
  where
    by : (s : Option Interval) → u.left ≡ s → cut_row_of r v w u ≡ then_row (put_of r v u.left) (λ q. put_of q w (met_if (eqb v w) u.left u.right))
    by None e = cut-first-none r v w u e ∙ rw e refl
    by (Some x) e = cut-written r l h v w u x.low x.high slots e ∙ rw e refl
