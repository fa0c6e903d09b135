-- Entries stand only at slots: each step of a pass keeps that.
-- Assumes nothing.
use Prim.Native.Nat.{ℕ, ◌+◌}
use mathlib.Core.Path.{◌≡◌, refl, sym, ap, subst, ◌∙◌}
use mathlib.Core.Bool.{Bool, false}
use mathlib.Core.List.{List, [], ◌∷◌}
use lib.IntN.{ℤ}
use Rattle.words.proofs.Bools.{clash}
use Rattle.interval.specs.declared.Interval.{Interval}
use Rattle.table.specs.Layout.{sizes_of, points_of}
use Rattle.table.specs.Decode.{point_of}
use Rattle.table.specs.declared.Point.{Point}
use Rattle.table.specs.declared.Point.TheVariants.{End, Assign, Test, Lock, Unlock}
use Rattle.analysis.specs.declared.Row.{Row}
use Rattle.analysis.specs.Rows.{row_of}
use Rattle.proposer.specs.Fold.{fold_below}
use Rattle.proposer.specs.Widen.{Places, place_in}
use Rattle.proposer.specs.Passes.{State, begun, slot_of, entry_into, disturb, unguarded, file_in, filed_by, leave_by, leave, visit, rest_visit, pass_of}
use Rattle.proposer.proofs.ListLaws.{fold-keeps}
use Rattle.iterator.specs.Plan.{is_slot, Filed}
use Rattle.iterator.proofs.FilingLaws.{slot_is}
use Rattle.iterator.proofs.KeptLaws.{take-other}
use Rattle.iterator.proofs.IntoLaws.{into-entries}
use Rattle.std.specs.Prelude.{Option, None, Some}

module _ (t ts : List ℤ) (h : ℕ → ℕ) where
  -- ---- a write filed
  file-elsewhere : (x : Option Interval) (c : ℕ) (f : Option ℕ) (a : Places) (j : ℕ) → slot_of t h c ≡ f → is_slot t h j ≡ false → place_in (file_in x f ts a) j ≡ place_in a j
  unfolding file_in
  file-elsewhere None c f a j e off = refl
  file-elsewhere (Some d) c None a j e off = refl
  file-elsewhere (Some d) c (Some q) a j e off =
      take-other 1 ts a q (row_of (d.low ∷ []) (d.high ∷ [])) j (λ same. clash (sym (slot_is t h c q e) ∙ ap (λ (k : ℕ). is_slot t h k) (sym same) ∙ off))

  filed-elsewhere : (x : Point) (a : Places) (p : ℕ) (r : Row) (j : ℕ) → is_slot t h j ≡ false → place_in (filed_by x t ts h a p r) j ≡ place_in a j
  unfolding filed_by
  filed-elsewhere End a p r j off = refl
  filed-elsewhere (Assign v e q) a p r j off = file-elsewhere _ _ _ a j refl off
  filed-elsewhere (Test c y n) a p r j off = refl
  filed-elsewhere (Lock m q) a p r j off = refl
  filed-elsewhere (Unlock m q) a p r j off = refl

  -- ---- a pass
  leave-filed : (s : State) (p : ℕ) → Filed t h s.entries → Filed t h (leave t ts h s p).entries
  unfolding leave leave_by
  leave-filed s p f = by (place_in s.rows p)
    where
      by : (m : Option Row) → Filed t h (leave_by t ts h m s p).entries
      by None = f
      by (Some r) = record { elsewhere = λ j e. filed-elsewhere (point_of (points_of t) p) s.entries p r j e ∙ f.elsewhere j e }

  into-all : (on : ℕ → Bool) (k n : ℕ) (s : State) → (fold_below (λ x q. entry_into (on q) t ts x k q) s n).entries ≡ s.entries
  into-all on k n s = fold-keeps (λ (x : State). x.entries ≡ s.entries) _ n (λ q _ x e. into-entries (on q) t ts x k q ∙ e) s refl

  pub visit-filed : (s : State) (p : ℕ) → Filed t h s.entries → Filed t h (visit t ts h s p).entries
  unfolding visit disturb
  visit-filed s p f = leave-filed _ p (subst (λ (a : Places). Filed t h a) (sym (into-all _ p (sizes_of t).points s)) f)

  pub rest-entries : (s : State) (m : ℕ) → (rest_visit t ts h s m).entries ≡ s.entries
  unfolding rest_visit unguarded
  rest-entries s m = into-all _ ((sizes_of t).points + m) (sizes_of t).points s

  pub visits-filed : (n : ℕ) (s : State) → Filed t h s.entries → Filed t h (fold_below (visit t ts h) s n).entries
  visits-filed n s = fold-keeps (λ (x : State). Filed t h x.entries) (visit t ts h) n (λ p _ x. visit-filed x p) s

  pub pass-filed : (s : State) → Filed t h s.entries → Filed t h (pass_of t ts h s).entries
  unfolding pass_of
  pass-filed s f =
      fold-keeps (λ (x : State). Filed t h x.entries) (rest_visit t ts h) (sizes_of t).mutexes (λ m _ x g. rw (rest-entries x m) g) _
      (visits-filed (sizes_of t).points (begun s) (record { elsewhere = f.elsewhere }))
