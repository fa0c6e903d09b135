-- Outcomes of a point: their targets are points of the table, their rows are proper, and they bring the held set of their target.
-- Assumes nothing.
use Prim.Native.Nat.{ℕ, ◌<◌}
use mathlib.Core.Path.{◌≡◌, refl}
use mathlib.Core.Bool.{Bool, true, false, not, cond}
use mathlib.Core.List.{List, [], ◌∷◌, ◌++◌}
use mathlib.Core.Logic.{inl, inr}
use native.Mathlib.Decide.{dec_lt, ℕ_discrete}
use native.Mathlib.Omega.{arith}
use borrow.Author.Tests.{not-true}
use lib.IntN.{ℤ, pos}
use lib.ListN.{length, set, replicate, length-replicate, get_or-replicate, get_or-eq_default}
use lib.Seq.{get_or-set_same, get_or-set_other}
use lib.Signed.{le_z, ◌≤ℤ◌, ≤ℤ_refl}
use Rattle.words.specs.Words.{word_of}
use Rattle.words.specs.First.{all_below}
use Rattle.words.proofs.Bools.{clash}
use Rattle.words.proofs.FirstLaws.{all_below-each}
use Rattle.interval.specs.Interval.{on_ends, from_to, span}
use Rattle.interval.specs.Lattice.{is_none_of, meet_of}
use Rattle.interval.specs.declared.Interval.{Interval}
use Rattle.interval.proofs.IntegerLaws.{≤_trans, le-true, le_z-yes', max-left, min-left, min-is, max-is}
use Rattle.table.specs.Layout.{sizes_of, nodes_of}
use Rattle.table.specs.Tree.{cond_at}
use Rattle.table.specs.Passes.{FormedPoint}
use Rattle.table.specs.declared.Point.{Point}
use Rattle.table.specs.declared.Point.TheVariants.{End, Assign, Test, Lock, Unlock}
use Rattle.analysis.specs.declared.Row.{Row}
use Rattle.analysis.specs.Rows.{row_of, range_of, slots_of, own_of, row_if, each}
use Rattle.analysis.specs.Analysis.{narrow_of}
use Rattle.analysis.proofs.RowLaws.{each-is}
use Rattle.rules.specs.Held.{has_of, with_of, without_of}
use Rattle.rules.specs.Outcomes.{Outcome, meet_rows_of, assigned, written_of, outcome_if, only_if, outcomes_with}
use Rattle.proposer.specs.Laws.{Words}
use Rattle.proposer.specs.Walk.{Goes, goes_if, goes_of, Leads}
use Rattle.proposer.proofs.WidenLaws.{Proper}
use Rattle.proposer.proofs.TakeLaws.{ProperRow, proper-zero, at_both}
use Rattle.proposer.proofs.ValueLaws.{ProperOn, node-proper, MaybeProper, narrow-proper}
use Rattle.std.specs.Int.{int_min, int_max}
use Rattle.std.specs.Prelude.{None, Option, Some}

-- what holds of each outcome
unfoldable pub AllOf : (Outcome → Type 0) → List Outcome → Type 0
AllOf P [] = Unit {0}
AllOf P (o ∷ l) = P o × AllOf P l

pub all_map : (P Q : Outcome → Type 0) (l : List Outcome) → ((o : Outcome) → P o → Q o) → AllOf P l → AllOf Q l
unfolding AllOf
all_map P Q [] f h = tt
all_map P Q (o ∷ l) f h = (f o h.0, all_map P Q l f h.1)

all_append : (P : Outcome → Type 0) (l m : List Outcome) → AllOf P l → AllOf P m → AllOf P (l ++ m)
unfolding AllOf
all_append P [] m h k = k
all_append P (o ∷ l) m h k = (h.0, all_append P l m h.1 k)

-- ---- rows of n intervals
pub record Sized (n : ℕ) (r : Row) : Type 0 where
  pub lows : length r.lows ≡ n
  pub highs : length r.highs ≡ n
  pub proper : ProperRow r

pub zero-sized : (n : ℕ) → Sized n (row_of (replicate n (pos 0)) (replicate n (pos 0)))
zero-sized n =
    record {
      lows = length-replicate n (pos 0);
      highs = length-replicate n (pos 0);
      proper = record { at = λ v. rw (zero-at n v) proper-zero };
    }
  where
    zero-at : (n v : ℕ) → word_of (replicate n (pos 0)) v ≡ pos 0
    zero-at n v = elim (dec_lt v n) [
      | yes l ↦ get_or-replicate n v (pos 0) (pos 0) l
      | no l ↦ get_or-eq_default (replicate n (pos 0)) (pos 0) {n = v} (omega (arith, length-replicate n (pos 0)))
    ]

-- an interval put in at v
pub set-proper : (n : ℕ) (r : Row) (v : ℕ) (a b : ℤ) → Sized n r → v < n → Proper a b → ProperRow (row_of (set r.lows v a) (set r.highs v b))
set-proper n r v a b z l p = record {
  at = λ u. elim (ℕ_discrete u v) [
    | yes e ↦ rw e (rw (get_or-set_same r.lows v a (pos 0) (omega (arith, z.lows)), get_or-set_same r.highs v b (pos 0) (omega (arith, z.highs))) p)
    | no d ↦ rw (get_or-set_other r.lows v u a (pos 0) d, get_or-set_other r.highs v u b (pos 0) d) (z.proper.at u)
  ];
}

own-proper : (r : Row) → ProperRow r → ProperRow (own_of r)
unfolding slots_of
own-proper r p = record { at = at_both 16 (λ i. word_of r.lows i) (λ i. word_of r.highs i) Proper (λ v _. p.at v) proper-zero }

pub written-proper : (t : List ℤ) (n : ℕ) (r : Row) → Words t → ProperRow r → ProperOn (written_of t n r)
unfolding written_of
written-proper t n r w p = node-proper t n (own_of r) w (own-proper r p)

assigned-proper : (n : ℕ) (x : Option Interval) (v : ℕ) (r : Row) → Sized n r → v < n → ProperOn x → MaybeProper (assigned x v r)
unfolding assigned
assigned-proper n None v r z l p = tt
assigned-proper n (Some e) v r z l p = set-proper n r v e.low e.high z l p

-- ---- the meet
some-order : (a b : ℤ) → is_none_of (from_to a b) ≡ false → a ≤ℤ b
unfolding on_ends
some-order a b e = by (le_z a b) refl e
  where
    by : (t : Bool) → le_z a b ≡ t → is_none_of (cond t (span a b) None) ≡ false → a ≤ℤ b
    by true q e = le_z-yes' a b q
    by false q e = clash e

range-is : (r : Row) (v : ℕ) → ProperRow r → range_of r v ≡ span (word_of r.lows v) (word_of r.highs v)
range-is r v p = rw (le-true (p.at v).ordered)

meet-some : (a b c d : ℤ) → a ≤ℤ b → c ≤ℤ d → is_none_of (meet_of (span a b) (span c d)) ≡ false → int_max a c ≤ℤ int_min b d
unfolding meet_of on_ends
meet-some a b c d h k e = some-order (int_max a c) (int_min b d) (rw (le-true h, le-true k) at e)

meet_rows-proper : (n : ℕ) (r s : Row) → Sized n r → Sized n s → MaybeProper (meet_rows_of n r s)
unfolding meet_rows_of row_if
meet_rows-proper n r s z y = by (all_below (λ v. not (is_none_of (meet_of (range_of r v) (range_of s v)))) n) refl
  where
    order : (v : ℕ) → all_below (λ v. not (is_none_of (meet_of (range_of r v) (range_of s v)))) n ≡ true → v < n
        → int_max (word_of r.lows v) (word_of s.lows v) ≤ℤ int_min (word_of r.highs v) (word_of s.highs v)
    order v e l =
        let kept : is_none_of (meet_of (range_of r v) (range_of s v)) ≡ false = not-true _ (all_below-each (λ v. not (is_none_of (meet_of (range_of r v) (range_of s v)))) n e v l) in
        meet-some _ _ _ _ (z.proper.at v).ordered (y.proper.at v).ordered (rw (range-is r v z.proper, range-is s v y.proper) at kept)

    both : (v : ℕ) → all_below (λ v. not (is_none_of (meet_of (range_of r v) (range_of s v)))) n ≡ true
        → Proper (int_max (word_of r.lows v) (word_of s.lows v)) (int_min (word_of r.highs v) (word_of s.highs v))
    both v e = elim (dec_lt v n) [
      | yes l ↦ record {
        low = ≤_trans (z.proper.at v).low (max-left _ _);
        ordered = order v e l;
        high = ≤_trans (min-left _ _) (z.proper.at v).high;
      }
      | no l ↦ rw (
        get_or-eq_default r.lows (pos 0) {n = v} (omega (arith, z.lows)),
        get_or-eq_default r.highs (pos 0) {n = v} (omega (arith, z.highs)),
        get_or-eq_default s.lows (pos 0) {n = v} (omega (arith, y.lows)),
        get_or-eq_default s.highs (pos 0) {n = v} (omega (arith, y.highs)),
        max-is (≤ℤ_refl (pos 0)),
        min-is (≤ℤ_refl (pos 0)),
      ) proper-zero
    ]

    by : (b : Bool) → all_below (λ v. not (is_none_of (meet_of (range_of r v) (range_of s v)))) n ≡ b
        → MaybeProper (row_if b (Some (row_of (each int_max r.lows s.lows) (each int_min r.highs s.highs))))
    by false e = tt
    by true e = record {
      at = λ v. rw (each-is int_max (max-is (≤ℤ_refl (pos 0))) r.lows s.lows v, each-is int_min (min-is (≤ℤ_refl (pos 0))) r.highs s.highs v) (both v e);
    }

-- ---- outcomes
module _ (t : List ℤ) (P : ℕ → ℕ → Type 0) where
  -- the target is a point, P holds of it and the set that the outcome brings, and the row is proper
  pub record Sound (o : Outcome) : Type 0 where
    pub point : o.target < (sizes_of t).points
    pub brings : P o.target o.held
    pub proper : ProperRow o.row

  outcome-sound : (m : Option Row) (s q : ℕ) → q < (sizes_of t).points → P q s → MaybeProper m → AllOf Sound (outcome_if m s q)
  unfolding outcome_if AllOf
  outcome-sound None s q l b p = tt
  outcome-sound (Some r) s q l b p = (record { point = l; brings = b; proper = p }, tt)

  -- P holds of what the instruction leads to
  abbrev pub LeadsTo : List Goes → Type 0
  LeadsTo l = (q s : ℕ) → Leads l q s → P q s

  only-sound : (b : Bool) (q s : ℕ) (l : List Outcome) → LeadsTo (goes_if b q s) → (P q s → AllOf Sound l) → AllOf Sound (only_if b l)
  unfolding only_if goes_if Leads AllOf
  only-sound true q s l g f = f (g q s (inl (refl, refl)))
  only-sound false q s l g f = tt

  pub outcomes-sound : (p : ℕ) (x : Point) (rest : ℕ → Row) (s : ℕ) (r : Row) → Words t → FormedPoint t p x → LeadsTo (goes_of x s)
      → Sized (sizes_of t).variables r → ((m : ℕ) → Sized (sizes_of t).variables (rest m)) → AllOf Sound (outcomes_with t rest x s r)
  unfolding outcomes_with FormedPoint goes_of goes_if Leads AllOf
  outcomes-sound p End rest s r w f g z y = tt
  outcomes-sound p (Assign v e q) rest s r w f g z y =
      outcome-sound _ s q f.2.point (g q s (inl (refl, refl))) (assigned-proper (sizes_of t).variables _ v r z f.0 (written-proper t e r w z.proper))
  outcomes-sound p (Test c j k) rest s r w f g z y =
      all_append Sound (outcome_if (narrow_of (cond_at (nodes_of t) c) true (own_of r)) s j) _
      (outcome-sound _ s j f.1.point (g j s (inl (refl, refl))) (narrow-proper _ true (own_of r) (own-proper r z.proper)))
      (outcome-sound _ s k f.2.point (g k s (inr (inl (refl, refl)))) (narrow-proper _ false (own_of r) (own-proper r z.proper)))
  outcomes-sound p (Lock m q) rest s r w f g z y =
      only-sound (not (has_of s m)) q (with_of s m) _ g (λ b. outcome-sound _ (with_of s m) q f.1.point b (meet_rows-proper (sizes_of t).variables r (rest m) z (y m)))
  outcomes-sound p (Unlock m q) rest s r w f g z y =
      only-sound (has_of s m) q (without_of s m) _ g (λ b. outcome-sound (Some r) (without_of s m) q f.1.point b z.proper)
