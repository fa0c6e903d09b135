-- A visit as the code makes it: by the entries at slots only, and nothing where no row is there.
-- Assumes nothing.
use Rattle.std.proofs.Common.{◌≡◌, ℕ, ◌+◌, ◌<◌, Bool, true, false, List, [], ℤ, length, get_or, take, refl, sym, ap, ◌∙◌}
use Rattle.std.specs.Prelude.{Option, None, Some}
use Rattle.table.specs.Layout.{sizes_of, points_of}
use Rattle.table.specs.Decode.{point_of}
use Rattle.analysis.specs.declared.Row.{Row}
use Rattle.proposer.specs.Fold.{fold_below}
use Rattle.proposer.specs.Widen.{Places, place_in}
use Rattle.proposer.specs.Passes.{State, written_to, entry_into, disturb, unguarded, leave_by, leave, visit, rest_visit}
use Rattle.proposer.proofs.ThoseLaws.{those-in}
use Rattle.iterator.specs.declared.plan.Plan.{Plan}
use Rattle.iterator.specs.Plan.{held_in, is_assign, slot_if, is_slot, slots_of, Filed, Planned}
use Rattle.iterator.proofs.FoldLaws.{fold-idle, along_of, along_all, fold-those}
use Rattle.iterator.proofs.IntoLaws.{into-entries, into-no-entry, into-no-row}

module _ (t ts : List ℤ) (h : ℕ → ℕ) where
  -- ---- entries stand only at slots
  -- and there is an assignment
  pub entry-assign : {a : Places} (q : ℕ) {r : Row} → Filed t h a → place_in a q ≡ Some r → is_assign (point_of (points_of t) q) ≡ true
  unfolding is_slot slot_if
  entry-assign {a} q {r} f there = by (is_assign (point_of (points_of t) q)) refl
    where
      by : (b : Bool) → is_assign (point_of (points_of t) q) ≡ b → b ≡ true
      by true e = refl
      by false e = let none : ◌≡◌ {A = Option Row} None (Some r) = sym (f.elsewhere q (rw e refl)) ∙ there in absurd cc

  into-slots : (on : ℕ → Bool) (k : ℕ) (s : State) → Filed t h s.entries
      → fold_below (λ x q. entry_into (on q) t ts x k q) s (sizes_of t).points ≡ along_all (λ x q. entry_into (on q) t ts x k q) (slots_of t h) s
  unfolding slots_of
  into-slots on k s f =
      fold-those (λ x q. entry_into (on q) t ts x k q) (is_slot t h) (λ x. x.entries ≡ s.entries) (λ x q e. into-entries (on q) t ts x k q ∙ e)
      (λ x q e off. into-no-entry (on q) t ts x k q (rw e (f.elsewhere q off))) s refl (sizes_of t).points

  pub disturb-slots : (p : ℕ) (s : State) → Filed t h s.entries
      → fold_below (disturb t ts h p) s (sizes_of t).points ≡ along_all (disturb t ts h p) (slots_of t h) s
  unfolding disturb
  disturb-slots p = into-slots _ p

  pub rest-slots : (m : ℕ) (s : State) → Filed t h s.entries → rest_visit t ts h s m ≡ along_all (unguarded t ts h m) (slots_of t h) s
  unfolding rest_visit unguarded
  rest-slots m = into-slots _ ((sizes_of t).points + m)

  -- ---- no row is there
  pub visit-unreached : (s : State) (p : ℕ) → place_in s.rows p ≡ None → visit t ts h s p ≡ s
  unfolding visit disturb leave leave_by
  visit-unreached s p e = rw (fold-idle (disturb t ts h p) s (λ q. into-no-row _ t ts s p q e) (sizes_of t).points, e) refl

-- ---- as the code takes an entry in
-- the variable that is written at q, where an entry stands
pub entry-variable : {t : List ℤ} {plan : Plan} (a : Places) (q : ℕ) {r : Row} → Planned t plan → Filed t (held_in plan) a → q < (sizes_of t).points
    → place_in a q ≡ Some r → get_or plan.variables q 0 ≡ written_to (point_of (points_of t) q)
entry-variable {t} {plan} a q planned f below there = planned.variable q below (entry-assign t [] (held_in plan) q f there)

-- the number i of the places that are listed
pub listed-below : {t : List ℤ} {plan : Plan} (i : ℕ) → Planned t plan → i < length (take plan.count plan.listed)
    → get_or (take plan.count plan.listed) i 0 < (sizes_of t).points
unfolding slots_of
listed-below {t} {plan} i planned l =
    rw planned.listed (those-in (is_slot t (held_in plan)) (sizes_of t).points i (rw planned.listed at l)).below

-- by all of them, as a loop over the list ends
pub listed-all : {t : List ℤ} {plan : Plan} (f : State → ℕ → State) (s : State) {after : State} {i : ℕ} → Planned t plan
    → after ≡ fold_below (along_of f (take plan.count plan.listed)) s i → i ≡ length (take plan.count plan.listed) → after ≡ along_all f (slots_of t (held_in plan)) s
listed-all {plan = plan} f s planned e end =
    e ∙ ap (λ (k : ℕ). fold_below (along_of f (take plan.count plan.listed)) s k) end ∙ ap (λ (l : List ℕ). along_all f l s) planned.listed
