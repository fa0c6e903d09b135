-- The invariant of a run, and what keeps it: a move of one task, and a stop.
--     Inv         the claim of a state, its lists' lengths, and that each task stands at a point of its own; `Inside` speaks of every index
--     Move        what has to be known of a move of task u to q that leaves the values vs and the owners os
--     moved       a move keeps the invariant: the only place where the tasks split into the mover and the others
--     halted      so does a stop with a listed error
-- The laws of the first section are all that the proof says of how a task's mutexes, held words and what outcomes bring relate.
-- Assumes nothing.
use Prim.Native.Nat.{ℕ, zero, suc, ◌<◌}
use mathlib.Core.Path.{◌≡◌, refl, sym, ap, subst, ◌∙◌}
use mathlib.Core.Bool.{Bool, true, false}
use mathlib.Core.List.{List}
use native.Mathlib.Omega.{arith}
use native.Mathlib.Decide.{ℕ_discrete}
use borrow.Author.Tests.{eqb-true, eq-eqb, ne_eqb}
use lib.IntN.{ℤ, pos, negsuc}
use lib.ListN.{length, get_or, set, length-set}
use lib.Seq.{get_or-set_same, get_or-set_other}
use Rattle.words.specs.Words.{word_of, number_of}
use Rattle.words.proofs.Bools.{clash}
use Rattle.words.proofs.ListLaws.{at_each}
use Rattle.table.specs.Layout.{sizes_of, task_of}
use Rattle.table.specs.Passes.{Passes}
use Rattle.analysis.specs.Rows.{Inside}
use Rattle.rules.specs.Held.{has_of}
use Rattle.rules.specs.Proposal.{held_word_of, held_of, row_at, rest_at}
use Rattle.rules.specs.Rules.{held_fits}
use Rattle.checker.specs.AlarmList.{alarm_words}
use Rattle.checker.specs.Laws.{on_list}
use Rattle.run.specs.declared.State.{State}
use Rattle.run.specs.State.{point_in, owner_in, stop_node_in, stop_kind_in, is_free, is_number, owns_of, with_stop_of}
use Rattle.soundness.specs.Safe.{Reached, HoldsNamed, Listed, Safe}

-- ---- held words and owners
pub named-owned : (owned named : Bool) → HoldsNamed owned named → named ≡ true → owned ≡ true
named-owned owned named h e = h ∙ e

pub owned-named : (owned named : Bool) → HoldsNamed owned named → owned ≡ true → named ≡ true
owned-named owned named h e = sym h ∙ e

-- a mutex that is owned and named, or neither
pub owned-and-named : (owned named : Bool) → owned ≡ true → named ≡ true → HoldsNamed owned named
owned-and-named owned named o n = o ∙ sym n

pub neither : (owned named : Bool) → owned ≡ false → named ≡ false → HoldsNamed owned named
neither owned named o n = o ∙ sym n

-- a mutex that is named as before
pub named-same : (owned named now : Bool) → now ≡ named → HoldsNamed owned named → HoldsNamed owned now
named-same owned named now e h = h ∙ sym e

-- a target whose held set fits what an outcome brings is reached, for no set is the number of -1
pub fits-reached : (w : List ℤ) (q s : ℕ) → s < 512 → held_fits s (held_of w q) ≡ true → held_word_of w q ≡ negsuc 0 → ⊥
unfolding held_of number_of
fits-reached w q s l e n =
    let is : held_of w q ≡ s = eqb-true _ _ e in
    let z : held_of w q ≡ 4294967295 = ap number_of n in
    omega arith

-- and who holds what the outcome brings, holds what the target names
pub fits-named : (s target m : ℕ) (owned : Bool) → held_fits s target ≡ true → HoldsNamed owned (has_of s m) → HoldsNamed owned (has_of target m)
fits-named s target m owned e h = subst (λ (k : ℕ). HoldsNamed owned (has_of k m)) (sym (eqb-true target s e)) h

-- ---- words that are an owner, or -1
pub owner-same : (z : ℤ) (n k : ℕ) → is_number z n ≡ true → is_number z k ≡ true → n ≡ k
owner-same (pos j) n k p q = sym (eqb-true j n p) ∙ eqb-true j k q
owner-same (negsuc j) n k p q = clash (sym p)

pub owner-self : (n : ℕ) → is_number (pos n) n ≡ true
owner-self n = eq-eqb n n refl

pub owner-other : (n k : ℕ) → (n ≡ k → ⊥) → is_number (pos n) k ≡ false
owner-other n k h = ne_eqb n k h

pub free-word : (z : ℤ) → is_free z ≡ true → z ≡ negsuc 0
free-word (pos n) e = clash (sym e)
free-word (negsuc zero) e = refl
free-word (negsuc (suc n)) e = clash (sym e)

pub free-unowned : (z : ℤ) (n : ℕ) → z ≡ negsuc 0 → is_number z n ≡ false
free-unowned z n e = rw e

pub owned-not-free : (n : ℕ) → pos n ≡ negsuc 0 → ⊥
owned-not-free n e = clash (sym (ap is_free e))

-- ---- the invariant
pub record Inv (t w : List ℤ) (s : State) : Type 0 where
  pub n-points : length s.points ≡ 8
  pub n-values : length s.values ≡ 16
  pub n-owners : length s.owners ≡ 8
  pub n-nodes : length s.stop_nodes ≡ 8
  pub n-kinds : length s.stop_kinds ≡ 8
  pub own : (u : ℕ) → u < (sizes_of t).tasks → task_of t (point_in s u) ≡ u
  pub stands : (u : ℕ) → u < (sizes_of t).tasks → Reached t w (point_in s u)
  pub holds : (u m : ℕ) → u < (sizes_of t).tasks → m < (sizes_of t).mutexes → HoldsNamed (owns_of s u m) (has_of (held_of w (point_in s u)) m)
  pub within : (u : ℕ) → u < (sizes_of t).tasks → Inside s.values (row_at t w (point_in s u))
  pub rests : (m : ℕ) → m < (sizes_of t).mutexes → owner_in s m ≡ negsuc 0 → Inside s.values (rest_at t w m)
  pub stopped : (u : ℕ) → u < (sizes_of t).tasks → (stop_kind_in s u ≡ 0 → ⊥) → Listed (alarm_words t w) (stop_node_in s u) (stop_kind_in s u)

pub inv-safe : {t w : List ℤ} {s : State} → Inv t w s → Safe t w (alarm_words t w) s
inv-safe i =
    record {
      stands = i.stands;
      holds = i.holds;
      within = λ u hu. record { each = λ v _. (i.within u hu).at v };
      rests = λ m hm free. record { each = λ v _. (i.rests m hm free).at v };
      stopped = i.stopped;
    }

-- task u moves to q; after it the values are vs and the owners os
pub record Move (t w : List ℤ) (s : State) (u q : ℕ) (vs os : List ℤ) : Type 0 where
  pub n-values : length vs ≡ 16
  pub n-owners : length os ≡ 8
  pub task : task_of t q ≡ u
  -- the target is reached, u holds what it names, and the other tasks hold what they did
  pub reached : Reached t w q
  pub mine : (m : ℕ) → m < (sizes_of t).mutexes → HoldsNamed (is_number (word_of os m) u) (has_of (held_of w q) m)
  pub others : (x : ℕ) → (x ≡ u → ⊥) → (m : ℕ) → m < (sizes_of t).mutexes → is_number (word_of os m) x ≡ owns_of s x m
  -- the values lie in the target's row, in the rows of the other tasks' points, and in the rest rows of free mutexes
  pub here : Inside vs (row_at t w q)
  pub there : (x : ℕ) → x < (sizes_of t).tasks → (x ≡ u → ⊥) → Inside vs (row_at t w (point_in s x))
  pub rest : (m : ℕ) → m < (sizes_of t).mutexes → word_of os m ≡ negsuc 0 → Inside vs (rest_at t w m)

abbrev pub moved_to : State → ℕ → ℕ → List ℤ → List ℤ → State
moved_to s u q vs os =
    record { points = set s.points u q; values = vs; owners = os; stop_nodes = s.stop_nodes; stop_kinds = s.stop_kinds }

module _ {t w : List ℤ} {s : State} (f : Passes t) (i : Inv t w s) (u : ℕ) (hu : u < (sizes_of t).tasks) where
  -- what holds of u at q and of each other task where it stands, holds of each task after the move
  each-task : (P : ℕ → ℕ → Type 0) (q : ℕ) → P u q → ((x : ℕ) → x < (sizes_of t).tasks → (x ≡ u → ⊥) → P x (point_in s x))
      → (x : ℕ) → x < (sizes_of t).tasks → P x (get_or (set s.points u q) x 0)
  each-task P q p rest x =
      at_each (λ x y. x < (sizes_of t).tasks → P x y) s.points u q 0 (omega (arith, i.n-points, f.tasks.high, hu))
      (λ _. p) (λ x d hx. rest x hx d) x

  pub moved : (q : ℕ) (vs os : List ℤ) → Move t w s u q vs os → Inv t w (moved_to s u q vs os)
  moved q vs os m =
      record {
        n-points = length-set s.points u q ∙ i.n-points;
        n-values = m.n-values;
        n-owners = m.n-owners;
        n-nodes = i.n-nodes;
        n-kinds = i.n-kinds;
        own = each-task (λ x p. task_of t p ≡ x) q m.task (λ x hx d. i.own x hx);
        stands = each-task (λ x p. Reached t w p) q m.reached (λ x hx d. i.stands x hx);
        holds = λ x k hx hk. each-task (λ x p. HoldsNamed (is_number (word_of os k) x) (has_of (held_of w p) k)) q (m.mine k hk)
            (λ x hx d. subst (λ (b : Bool). HoldsNamed b (has_of (held_of w (point_in s x)) k)) (sym (m.others x d k hk)) (i.holds x k hx hk)) x hx;
        within = each-task (λ x p. Inside vs (row_at t w p)) q m.here (λ x hx d. m.there x hx d);
        rests = m.rest;
        stopped = i.stopped;
      }

  pub halted : (n k : ℕ) → on_list n k (alarm_words t w) ≡ true → Inv t w (with_stop_of s u n k)
  halted n k e =
      record {
        n-points = i.n-points;
        n-values = i.n-values;
        n-owners = i.n-owners;
        n-nodes = length-set s.stop_nodes u (pos n) ∙ i.n-nodes;
        n-kinds = length-set s.stop_kinds u k ∙ i.n-kinds;
        own = i.own;
        stands = i.stands;
        holds = i.holds;
        within = i.within;
        rests = i.rests;
        stopped = λ x hx ns. elim (ℕ_discrete x u) [
          | yes q ↦
              subst (λ (j : ℕ). Listed (alarm_words t w) (word_of (set s.stop_nodes u (pos n)) j) (get_or (set s.stop_kinds u k) j 0)) (sym q)
              (rw (
                get_or-set_same s.stop_nodes u (pos n) (pos 0) (omega (arith, i.n-nodes, f.tasks.high, hu)),
                get_or-set_same s.stop_kinds u k 0 (omega (arith, i.n-kinds, f.tasks.high, hu)),
              ) (record { number = n; is = refl; on = e }))
          | no d ↦
              rw (get_or-set_other s.stop_nodes u x (pos n) (pos 0) d, get_or-set_other s.stop_kinds u x k 0 d)
              (i.stopped x hx (λ z. ns (get_or-set_other s.stop_kinds u x k 0 d ∙ z)))
        ];
      }
