-- A condition leaves of a row what the condition under its 'not' leaves by the truth that they turn it to, and has the same alarms. A choice by it is the
-- choice by the other, with its branches the other way round if it is turned.
-- Assumes nothing.
use Prim.Native.Nat.{ℕ, ◌≤◌, max}
use mathlib.Core.Path.{◌≡◌, refl, ap, ◌∙◌}
use mathlib.Core.Bool.{Bool, true, false, not, cond}
use mathlib.Core.List.{List}
use native.Mathlib.Omega.{arith}
use lib.IntN.{ℤ}
use Rattle.std.specs.Prelude.{Option}
use Rattle.interval.specs.Compare.{opposite_of}
use Rattle.interval.specs.declared.Interval.{Interval}
use Rattle.interval.proofs.Laws.{proved as laws}
use Rattle.table.specs.Decode.{shape_by, shape_of}
use Rattle.table.specs.Tree.{Arith, Cond, choice, compare, both, either, is_not, no_cond, cond_by, arith_at, cond_at}
use Rattle.table.proofs.KindLaws.{shape-all}
use Rattle.table.proofs.TreeLaws.{cond_of}
use Rattle.analysis.specs.Rows.{Row, maybe_by}
use Rattle.analysis.specs.Alarms.{marked_of}
use Rattle.analysis.specs.Analysis.{branch_of, alarms_on, value_of, alarms_of, decision_of, cond_alarms_of, narrow_of}
use Rattle.analysis.specs.Bare.{bare_of, turned_of}
use Rattle.analysis.proofs.AlarmLaws.{marked-swap}

pub not_not : (w : Bool) → not (not w) ≡ w
not_not true = refl
not_not false = refl

pub not_narrows : (n : ℕ) (c : Cond) (w : Bool) (r : Row) → narrow_of (is_not n c) w r ≡ narrow_of c (not w) r
unfolding narrow_of
not_narrows n c true r = refl
not_narrows n c false r = refl

-- one 'not' more
turned-again : (t w : Bool) → cond t (not (not w)) (not w) ≡ cond (not t) (not w) w
turned-again true w = not_not w
turned-again false w = refl

pub narrow-bare : (c : Cond) (w : Bool) (r : Row) → narrow_of c w r ≡ narrow_of (bare_of c) (cond (turned_of c) (not w) w) r
unfolding bare_of turned_of
narrow-bare (compare n k x y) w r = refl
narrow-bare (both n c d) w r = refl
narrow-bare (either n c d) w r = refl
narrow-bare (is_not n c) w r = not_narrows n c w r ∙ narrow-bare c (not w) r ∙ ap (λ (v : Bool). narrow_of (bare_of c) v r) (turned-again (turned_of c) w)
narrow-bare (no_cond n) w r = refl

pub alarms-bare : (c : Cond) (r : Row) → cond_alarms_of c r ≡ cond_alarms_of (bare_of c) r
unfolding bare_of cond_alarms_of
alarms-bare (compare n k x y) r = refl
alarms-bare (both n c d) r = refl
alarms-bare (either n c d) r = refl
alarms-bare (is_not n c) r = alarms-bare c r
alarms-bare (no_cond n) r = refl

pub none_wanted : (n : ℕ) (w : Bool) (r : Row) → narrow_of (no_cond n) w r ≡ maybe_by (not w) r
unfolding narrow_of maybe_by
none_wanted n true r = refl
none_wanted n false r = refl

-- ---- a choice
-- i is the choice's interval on the row r, and m' the marks m with its alarms
abbrev Chosen : Row → List ℕ → Option Interval → List ℕ → Cond → Arith → Arith → Type 0
Chosen r m i m' c x y = record { value : i ≡ value_of (choice 0 c x y) r; marks_after : m' ≡ marked_of m (alarms_of (choice 0 c x y) r) }

module _ (r : Row) where
  -- by the opposite, with its branches the other way round
  not_choice : (n : ℕ) (c : Cond) (x y : Arith) → value_of (choice 0 (is_not n c) x y) r ≡ value_of (choice 0 c y x) r
  unfolding value_of opposite_of
  not_choice n c x y = laws.lattice.join-comm _ _

  not_choice-alarms : (n : ℕ) (c : Cond) (x y : Arith) (m : List ℕ) → marked_of m (alarms_of (choice 0 (is_not n c) x y) r) ≡ marked_of m (alarms_of (choice 0 c y x) r)
  unfolding value_of opposite_of
  not_choice-alarms n c x y m =
      marked-swap m (cond_alarms_of c r)
      (alarms_on (branch_of (decision_of c r) false (narrow_of c false r)) (alarms_of x))
      (alarms_on (branch_of (decision_of c r) true (narrow_of c true r)) (alarms_of y))

  turned_back : {A : Type 0} (t : Bool) (x y : A) → cond (not t) x y ≡ cond t y x
  turned_back true x y = refl
  turned_back false x y = refl

  choice-bare : (c : Cond) (x y : Arith) → value_of (choice 0 c x y) r ≡ value_of (choice 0 (bare_of c) (cond (turned_of c) y x) (cond (turned_of c) x y)) r
  unfolding bare_of turned_of
  choice-bare (compare n k a b) x y = refl
  choice-bare (both n c d) x y = refl
  choice-bare (either n c d) x y = refl
  choice-bare (is_not n c) x y = rw (turned_back (turned_of c) y x, turned_back (turned_of c) x y) (not_choice n c x y ∙ choice-bare c y x)
  choice-bare (no_cond n) x y = refl

  choice_alarms-bare : (c : Cond) (x y : Arith) (m : List ℕ) → marked_of m (alarms_of (choice 0 c x y) r) ≡ marked_of m (alarms_of (choice 0 (bare_of c) (cond (turned_of c) y x) (cond (turned_of c) x y)) r)
  unfolding bare_of turned_of
  choice_alarms-bare (compare n k a b) x y m = refl
  choice_alarms-bare (both n c d) x y m = refl
  choice_alarms-bare (either n c d) x y m = refl
  choice_alarms-bare (is_not n c) x y m = rw (turned_back (turned_of c) y x, turned_back (turned_of c) x y) (not_choice-alarms n c x y m ∙ choice_alarms-bare c y x m)
  choice_alarms-bare (no_cond n) x y m = refl

-- ---- of nodes
-- of two places that are picked from x and y none is past both
pub picked-most : (t : Bool) (x y : ℕ) {v w : ℕ} → v ≡ cond t y x → w ≡ cond t x y → max v w ≤ max x y
picked-most true x y p q = rw (p, q) (omega arith)
picked-most false x y p q = rw (p, q) (omega arith)

-- a condition without 'not' around it stands by itself
module _ (ns : List ℤ) (n k : ℕ) (x y : ℤ) (a b c : ℕ) (e : shape_of ns n ≡ shape_by n k x y a b c) where
  plain : (k ≡ 22 → ⊥) → (cond_at ns n ≡ bare_of (cond_at ns n)) × (false ≡ turned_of (cond_at ns n))
  unfolding cond_by bare_of turned_of
  plain h =
      rw (cond_of ns n e)
      (shape-all
      (λ s. (cond_by (arith_at ns) (cond_at ns) n s ≡ bare_of (cond_by (arith_at ns) (cond_at ns) n s)) × (false ≡ turned_of (cond_by (arith_at ns) (cond_at ns) n s)))
      n k x y a b c
      (record {
        constant = λ e. (refl, refl);
        input = λ e. (refl, refl);
        variable = λ e. (refl, refl);
        negation = λ e l. (refl, refl);
        binary = λ op o l. (refl, refl);
        choice = λ e l. (refl, refl);
        comparison = λ q l m o. (refl, refl);
        both = λ e l. (refl, refl);
        either = λ e l. (refl, refl);
        is_not = λ e l. absurd (h e);
        bad = (refl, refl);
      }))

  pub plain_node : (k ≡ 22 → ⊥) → cond_at ns n ≡ bare_of (cond_at ns n)
  plain_node h = (plain h).0

  pub plain_turned : (k ≡ 22 → ⊥) → false ≡ turned_of (cond_at ns n)
  plain_turned h = (plain h).1

pub ruleset plains = (plain_node, plain_turned)

module _ (ns : List ℤ) (n : ℕ) where
  -- the node b is that of the condition at n without its 'not', and t whether they turn it
  abbrev pub Bared : ℕ → Bool → Type 0
  Bared b t = record { node_value : cond_at ns b ≡ bare_of (cond_at ns n); turned_value : t ≡ turned_of (cond_at ns n); node_le_n : b ≤ n }

  -- a choice by the condition at n is the choice by that under its 'not', with its branches the other way round if it is turned
  module _ (b x y v w : ℕ) (t : Bool) (r : Row) (at : cond_at ns b ≡ bare_of (cond_at ns n)) (turns : t ≡ turned_of (cond_at ns n)) (p : v ≡ cond t y x) (q : w ≡ cond t x y) where
    picked : (t : Bool) (x y : ℕ) → arith_at ns (cond t x y) ≡ cond t (arith_at ns x) (arith_at ns y)
    picked true x y = refl
    picked false x y = refl

    pub bare_choice : value_of (choice 0 (cond_at ns n) (arith_at ns x) (arith_at ns y)) r ≡ value_of (choice 0 (cond_at ns b) (arith_at ns v) (arith_at ns w)) r
    bare_choice = rw (at, p, q, picked t y x, picked t x y, turns) (choice-bare r (cond_at ns n) (arith_at ns x) (arith_at ns y))

    pub bare_choice_alarms : (m : List ℕ) → marked_of m (alarms_of (choice 0 (cond_at ns n) (arith_at ns x) (arith_at ns y)) r) ≡ marked_of m (alarms_of (choice 0 (cond_at ns b) (arith_at ns v) (arith_at ns w)) r)
    bare_choice_alarms m = rw (at, p, q, picked t y x, picked t x y, turns) (choice_alarms-bare r (cond_at ns n) (arith_at ns x) (arith_at ns y) m)

  -- both of them together
  pub bare-choice : (b x y : ℕ) (r : Row) (m : List ℕ) {t : Bool} {v w : ℕ} {i : Option Interval} {m' : List ℕ} → Bared b t → v ≡ cond t y x → w ≡ cond t x y
      → Chosen r m i m' (cond_at ns b) (arith_at ns v) (arith_at ns w) → Chosen r m i m' (cond_at ns n) (arith_at ns x) (arith_at ns y)
  bare-choice b x y r m {t} {v} {w} h p q done = record {
    value = rw (bare_choice b x y v w t r h.node_value h.turned_value p q) done.value;
    marks_after = rw (bare_choice_alarms b x y v w t r h.node_value h.turned_value p q m) done.marks_after;
  }
