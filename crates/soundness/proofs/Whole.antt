-- Demand 3: the start, every step from any state with the invariant, every schedule, and the end.
-- Assumes nothing.
use Prim.Native.Nat.{ℕ, zero, suc, ◌+◌, ◌<◌}
use mathlib.Core.Path.{◌≡◌, refl, sym, ap, subst, ◌∙◌}
use mathlib.Core.Bool.{Bool, true, false, cond}
use mathlib.Core.List.{List}
use native.Mathlib.Omega.{arith}
use borrow.Author.Tests.{ltb-true, lt-ltb}
use lib.Dec.{ltb}
use lib.IntN.{ℤ, pos, negsuc}
use lib.ListN.{length, get_or-replicate}
use Rattle.words.specs.Words.{number_of, number_at}
use Rattle.words.proofs.Bools.{and_left}
use Rattle.words.proofs.FillLaws.{length-tabulate, get_d_tabulate}
use Rattle.table.specs.Layout.{sizes_of, first_of, task_of}
use Rattle.analysis.specs.Rows.{Inside}
use Rattle.rules.specs.Held.{has_of}
use Rattle.rules.specs.Proposal.{held_word_of, held_of, row_at}
use Rattle.checker.specs.AlarmList.{alarm_words}
use Rattle.checker.specs.Check.{check_of}
use Rattle.checker.specs.Laws.{Accepts}
use Rattle.checker.proofs.AcceptLaws.{accepts, accepted-buffer}
use Rattle.run.specs.declared.State.{State}
use Rattle.run.specs.State.{point_in, owner_in, is_number, owns_of, free_of, firsts_of, values_of, start_of}
use Rattle.run.specs.Step.{runs_of, turn_by, turn_of, step_by, step_of}
use Rattle.run.specs.Run.{after, last_of, run_of, state_by}
use Rattle.run.proofs.RunLaws.{run-stage, run-last}
use Rattle.run.proofs.SlotLaws.{first-point}
use Rattle.soundness.specs.Safe.{Reached, HoldsNamed, Safe}
use Rattle.soundness.specs.Claim.{list_of, Claim}
use Rattle.rules.proofs.SetLaws.{has-none}
use Rattle.soundness.proofs.RuleLaws.{formed, first-held, first-row, rest-start}
use Rattle.soundness.proofs.Invariant.{neither, Inv, inv-safe}
use Rattle.soundness.proofs.StepLaws.{act-keeps}
use Rattle.std.specs.Prelude.{Ok}

module _ {t w : List ℤ} {room count : ℕ} (ok : Accepts t w room count) where
  -- ---- the start
  start-point : (u : ℕ) → u < (sizes_of t).tasks → point_in (start_of t) u ≡ first_of t u
  unfolding start_of firsts_of
  start-point u h =
      get_d_tabulate (λ u. cond (ltb u (sizes_of t).tasks) (first_of t u) 0) 8 u 0 (omega (arith, (formed ok).tasks.high))
      ∙ rw (lt-ltb u (sizes_of t).tasks h)

  start-owner : (m : ℕ) → m < (sizes_of t).mutexes → owner_in (start_of t) m ≡ negsuc 0
  unfolding start_of free_of
  start-owner m h =
      get_d_tabulate (λ i. cond (ltb i (sizes_of t).mutexes) (negsuc 0) (pos 0)) 8 m (pos 0) (omega (arith, (formed ok).mutexes.high))
      ∙ rw (lt-ltb m (sizes_of t).mutexes h)

  -- what holds of each task at its first point holds of each task at the start
  at-start : (P : ℕ → ℕ → Type 0) → ((u : ℕ) → u < (sizes_of t).tasks → P u (first_of t u))
      → (u : ℕ) → u < (sizes_of t).tasks → P u (point_in (start_of t) u)
  at-start P h u hu = subst (λ (p : ℕ). P u p) (sym (start-point u hu)) (h u hu)

  -- the number 0 is not that of -1
  first-reached : (u : ℕ) → u < (sizes_of t).tasks → held_word_of w (first_of t u) ≡ negsuc 0 → ⊥
  unfolding held_of number_of
  first-reached u hu e =
      let z : held_of w (first_of t u) ≡ 4294967295 = ap number_of e in
      omega (arith, first-held ok u hu)

  starts : Inv t w (start_of t)
  unfolding start_of firsts_of values_of free_of
  starts =
      record {
        n-points = length-tabulate _ 8;
        n-values = length-tabulate _ 16;
        n-owners = length-tabulate _ 8;
        n-nodes = length-tabulate _ 8;
        n-kinds = refl;
        own = at-start (λ u p. task_of t p ≡ u) (λ u hu. (formed ok).owner u (first_of t u) hu (omega arith) ((formed ok).share u hu));
        stands = at-start (λ u p. Reached t w p) (λ u hu. record { point = first-point (formed ok) u hu; held = first-reached u hu });
        holds = λ u m hu hm. at-start (λ u p. HoldsNamed (owns_of (start_of t) u m) (has_of (held_of w p) m))
            (λ u hu. neither _ _ (ap (λ (z : ℤ). is_number z u) (start-owner m hm)) (ap (λ (k : ℕ). has_of k m) (first-held ok u hu) ∙ has-none m))
            u hu;
        within = at-start (λ u p. Inside (values_of t) (row_at t w p)) (first-row ok);
        rests = λ m hm _. rest-start ok m hm;
        stopped = λ u hu n. absurd (n (get_or-replicate 8 u 0 0 (omega (arith, (formed ok).tasks.high))));
      }

  -- ---- every step
  module _ (schedule : List ℤ) where
    turn-keeps : (b : Bool) (s : State) (u at : ℕ) → runs_of t s u ≡ b → Inv t w s → Inv t w (turn_by b t schedule s u at).state
    unfolding runs_of turn_by
    turn-keeps true s u at e i = act-keeps ok schedule i u (ltb-true u (sizes_of t).tasks (and_left _ _ e)) at _ refl
    turn-keeps false s u at e i = i

    step_by-keeps : (b : Bool) (s : State) (at : ℕ) → Inv t w s → Inv t w (step_by b t schedule s at).state
    unfolding turn_of step_by
    step_by-keeps true s at i = turn-keeps _ s (number_at schedule at) (at + 1) refl i
    step_by-keeps false s at i = i

    pub step_keeps : (s : State) (at : ℕ) → Inv t w s → Inv t w (step_of t schedule s at).state
    unfolding step_of
    step_keeps s at i = step_by-keeps _ s at i

    pub keeps : (n : ℕ) → Inv t w (after t schedule n).state
    unfolding after
    keeps zero = starts
    keeps (suc n) = step_keeps _ _ (keeps n)

-- ---- the theorem
module _ (t w buffer schedule : List ℤ) (count : ℕ) (e : check_of t w (length buffer) ≡ Ok count) where
  ok : Accepts t w (length buffer) count
  ok = accepts t w (length buffer) count e

  -- the words written on acceptance, as many as the count says, are those of the list
  pub list-is : list_of t w buffer count ≡ alarm_words t w
  unfolding list_of
  list-is = accepted-buffer t w buffer count e

  safe-each : (n : ℕ) → Safe t w (list_of t w buffer count) (after t schedule n).state
  safe-each n =
      subst (λ (l : List ℤ). Safe t w l (after t schedule n).state) (sym list-is)
      (inv-safe (keeps ok schedule n))

  run_is : state_by (run_of t schedule) ≡ (after t schedule (length schedule)).state
  unfolding last_of
  run_is = run-last t schedule ok.table

  safe-end : Safe t w (list_of t w buffer count) (state_by (run_of t schedule))
  safe-end = subst (λ (s : State). Safe t w (list_of t w buffer count) s) (sym run_is) (safe-each (length schedule))

pub whole : Claim
whole =
    record {
      each = safe-each;
      end = safe-end;
      plays = λ t w buffer schedule count e. run-stage t schedule ∙ (ok t w buffer schedule count e).table;
    }
