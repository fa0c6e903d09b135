-- One step keeps the invariant.
--     apart              two tasks' held sets are disjoint, for a mutex has one owner
--     filed-there        a write lies in the row of each other task's point (rules 14 and 15)
--     filed-rest         and in the rest row of each free mutex (rules 14 and 16)
--     move-keeps         a move to an outcome's target; stay-keeps where the owners stay, owner-keeps where one changes
--     assign-keeps, test-keeps, lock-keeps, unlock-keeps     each kind of point, by what the run does there
--     act-keeps          a task's own step
-- Assumes nothing.
use Prim.Native.Nat.{ℕ, ◌+◌, ◌<◌}
use mathlib.Core.Path.{◌≡◌, refl, sym, ap, subst, ◌∙◌}
use mathlib.Core.Bool.{Bool, true, false, not, ◌&&◌}
use mathlib.Core.List.{List}
use native.Mathlib.Omega.{arith}
use native.Mathlib.Decide.{dec_lt}
use lib.IntN.{ℤ, pos, negsuc}
use lib.ListN.{length, set, length-set}
use lib.Seq.{get_or-set_other}
use Rattle.interval.proofs.IntegerLaws.{is_false}
use Rattle.words.specs.Words.{word_of}
use Rattle.words.proofs.Bools.{clash}
use Rattle.words.proofs.ListLaws.{at_each}
use Rattle.words.proofs.FirstLaws.{each-all_below}
use Rattle.table.specs.declared.Point.{Point}
use Rattle.table.specs.declared.Point.TheVariants.{End, Assign, Test, Lock, Unlock}
use Rattle.table.specs.Layout.{sizes_of, points_of, nodes_of}
use Rattle.table.specs.Decode.{point_of}
use Rattle.table.specs.Tree.{arith_at, cond_at}
use Rattle.table.specs.Meaning.{result, truth, Evaluation, gives, stops}
use Rattle.table.specs.Passes.{SameTask, FormedPoint}
use Rattle.analysis.specs.declared.Row.{Row}
use Rattle.analysis.specs.Rows.{own_of, Inside, Kept}
use Rattle.analysis.specs.Analysis.{narrow_of}
use Rattle.analysis.proofs.Laws.{proved as laws}
use Rattle.rules.specs.Held.{has_of, with_of, without_of, disjoint_of}
use Rattle.rules.specs.Proposal.{rows_of, held_of, row_at, rest_at}
use Rattle.rules.specs.Outcomes.{written_of, outcome_if, outcomes_with, outcomes_by, outcomes_of}
use Rattle.checker.specs.Laws.{Accepts}
use Rattle.run.specs.declared.State.{State}
use Rattle.run.specs.State.{point_in, owner_in, owns_of, is_free, is_number}
use Rattle.run.specs.Step.{assign_by, test_by, lock_by, unlock_by, act_of}
use Rattle.soundness.specs.Safe.{Reached, HoldsNamed}
use Rattle.rules.proofs.SetLaws.{has-with, has-with-other, has-without, has-without-other, has-past, with-small, without-small}
use Rattle.soundness.proofs.RowLaws.{Past, own-inside, write-inside, assigned-keeps, meet_rows-keeps, lows-few, highs-few, past-inside, within-inside, lows-length, highs-length}
use Rattle.soundness.proofs.BringsLaws.{Brings, brings-if, brings-only, brings-left, brings-right}
use Rattle.soundness.proofs.RuleLaws.{Filed, filed-takes, Arrived, formed, held-set, held_small, reached-test, arrive, assign-filed, disturb-takes, unlock-within, entry-takes}
use Rattle.soundness.proofs.ErrorLaws.{error-on-list, failure-on-list}
use Rattle.soundness.proofs.Invariant.{named-owned, owned-named, owned-and-named, neither, named-same, fits-reached, fits-named, owner-same, owner-self, owner-other, free-word, free-unowned, owned-not-free, Inv, moved_to, moved, halted}
use Rattle.std.specs.Prelude.{Option}

not-both : (a b : Bool) → (a ≡ true → b ≡ true → ⊥) → not (a && b) ≡ true
not-both true true h = absurd (h refl refl)
not-both true false h = refl
not-both false b h = refl

-- the proposal w was accepted for the table t, and the state s has the invariant
module _ {t w : List ℤ} {room count : ℕ} {s : State} (ok : Accepts t w room count) (schedule : List ℤ) (i : Inv t w s) where
  abbrev held_at : ℕ → ℕ
  held_at u = held_of w (point_in s u)

  -- ---- the mutexes of tasks
  -- one that is named at a task's point is that task's
  its : (u m : ℕ) → u < (sizes_of t).tasks → m < (sizes_of t).mutexes → has_of (held_at u) m ≡ true → owns_of s u m ≡ true
  its u m hu hm e = named-owned _ _ (i.holds u m hu hm) e

  -- one that is free is named at no task's point
  unnamed : (u m : ℕ) → u < (sizes_of t).tasks → m < (sizes_of t).mutexes → owner_in s m ≡ negsuc 0 → has_of (held_at u) m ≡ false
  unnamed u m hu hm e = is_false _ (λ n. clash (sym (its u m hu hm n) ∙ free-unowned (owner_in s m) u e))

  apart : (u x : ℕ) → u < (sizes_of t).tasks → x < (sizes_of t).tasks → (x ≡ u → ⊥) → disjoint_of (held_at u) (held_at x) ≡ true
  apart u x hu hx d = each-all_below (λ m. not (has_of (held_at u) m && has_of (held_at x) m)) 8 (λ m _. not-both _ _ (no-two m))
    where
      no-two : (m : ℕ) → has_of (held_at u) m ≡ true → has_of (held_at x) m ≡ true → ⊥
      no-two m a b = elim (dec_lt m (sizes_of t).mutexes) [
        | yes hm ↦ d (owner-same (owner_in s m) x u (its x m hx hm b) (its u m hu hm a))
        | no n ↦ clash (sym a ∙ has-past (held_at u) (sizes_of t).mutexes m (held-set ok (point_in s u) (i.stands u hu)) (omega (arith, n)))
      ]

  -- ---- a step of task u
  module _ (u : ℕ) (hu : u < (sizes_of t).tasks) where
    abbrev p : ℕ
    p = point_in s u

    abbrev instruction : Point
    instruction = point_of (points_of t) p

    stands : Reached t w p
    stands = i.stands u hu

    row : Inside s.values (row_at t w p)
    row = i.within u hu

    past : Past t s.values
    past = past-inside t w p row

    -- a write lies in the rows of the other tasks' points, and in the rest rows of free mutexes
    filed-there : (v : ℕ) (z : ℤ) → Filed t w u (held_at u) v z → (x : ℕ) → x < (sizes_of t).tasks → (x ≡ u → ⊥)
        → Inside (set s.values v z) (row_at t w (point_in s x))
    filed-there v z k x hx d =
        write-inside (row_at t w (point_in s x)) v z
        (filed-takes t w u (held_at u) v z (row_at t w (point_in s x)) k
        (disturb-takes ok (point_in s x) k.entry (i.stands x hx) k.below (λ e. d (sym (i.own x hx) ∙ sym e ∙ k.task))
        (subst (λ (b : ℕ). disjoint_of b (held_at x) ≡ true) (sym k.held) (apart u x hu hx d))))
        (i.within x hx)

    filed-rest : (v : ℕ) (z : ℤ) → Filed t w u (held_at u) v z → (m : ℕ) → m < (sizes_of t).mutexes → owner_in s m ≡ negsuc 0
        → Inside (set s.values v z) (rest_at t w m)
    filed-rest v z k m hm e =
        write-inside (rest_at t w m) v z
        (filed-takes t w u (held_at u) v z (rest_at t w m) k
        (entry-takes ok k.entry m k.below hm (subst (λ (b : ℕ). has_of b m ≡ false) (sym k.held) (unnamed u m hu hm e))))
        (i.rests m hm e)

    fields : (x : Point) → instruction ≡ x → FormedPoint t p x
    fields x e = subst (λ (y : Point). FormedPoint t p y) e ((formed ok).point p stands.point)

    arrive-at : (x : Point) → instruction ≡ x → (q b : ℕ) (vs : List ℤ) → Past t vs → Brings (outcomes_by t w x (held_at u) (row_at t w p)) q b vs
        → Arrived t w q b vs
    unfolding outcomes_of
    arrive-at x e q b vs none br =
        arrive ok p q b vs stands none (subst (λ (y : Point). Brings (outcomes_by t w y (held_at u) (row_at t w p)) q b vs) (sym e) br)

    -- a move to q with the held set b: u owns what b names, and the others what they did
    move-keeps : (q b : ℕ) (vs os : List ℤ) → SameTask t p q → b < 512 → Arrived t w q b vs → length vs ≡ 16 → length os ≡ 8
        → ((m : ℕ) → m < (sizes_of t).mutexes → HoldsNamed (is_number (word_of os m) u) (has_of b m))
        → ((x : ℕ) → (x ≡ u → ⊥) → (m : ℕ) → m < (sizes_of t).mutexes → is_number (word_of os m) x ≡ owns_of s x m)
        → ((x : ℕ) → x < (sizes_of t).tasks → (x ≡ u → ⊥) → Inside vs (row_at t w (point_in s x)))
        → ((m : ℕ) → m < (sizes_of t).mutexes → word_of os m ≡ negsuc 0 → Inside vs (rest_at t w m)) → Inv t w (moved_to s u q vs os)
    move-keeps q b vs os same small ar n-values n-owners mine others there rest =
        moved (formed ok) i u hu q vs os
        (record {
          n-values = n-values;
          n-owners = n-owners;
          task = same.task ∙ i.own u hu;
          reached = record { point = same.point; held = fits-reached w q b small ar.fit };
          mine = λ m hm. fits-named b (held_of w q) m _ ar.fit (mine m hm);
          others = others;
          here = ar.row;
          there = there;
          rest = rest;
        })

    -- where the owners stay, so do the held sets
    stay-keeps : (q : ℕ) (vs : List ℤ) → SameTask t p q → Arrived t w q (held_at u) vs → length vs ≡ 16
        → ((x : ℕ) → x < (sizes_of t).tasks → (x ≡ u → ⊥) → Inside vs (row_at t w (point_in s x)))
        → ((m : ℕ) → m < (sizes_of t).mutexes → owner_in s m ≡ negsuc 0 → Inside vs (rest_at t w m)) → Inv t w (moved_to s u q vs s.owners)
    stay-keeps q vs same ar n-values there rest =
        move-keeps q (held_at u) vs s.owners same (omega (arith, held_small ok p stands)) ar n-values i.n-owners
        (λ m hm. i.holds u m hu hm) (λ x d m hm. refl) there rest

    -- the values lie within the row in sixteen slots, on which an expression is read
    own_row : Inside s.values (own_of (row_at t w p))
    own_row = let few = (formed ok).variables.high in own-inside (row_at t w p) (lows-few t w p few) (highs-few t w p few) row

    -- ---- assign
    assign-keeps : (v e q at : ℕ) → instruction ≡ Assign v e q → (x : Evaluation ℤ) → result (arith_at (nodes_of t) e) s.values schedule at ≡ x
        → Inv t w (assign_by x s u v q).state
    unfolding FormedPoint assign_by outcomes_with outcomes_by written_of
    assign-keeps v e q at pe (gives z g) ev =
        let fm = fields (Assign v e q) pe in
        let hv : v < (sizes_of t).variables = fm.0 in
        let hl : v < length s.values = omega (arith, (formed ok).variables.high, i.n-values) in
        let hp : p < rows_of t = omega (arith, stands.point) in
        let holds = laws.value-contains (arith_at (nodes_of t) e) (own_of (row_at t w p)) s.values schedule at own_row z g ev in
        let kept = assigned-keeps (written_of t e (row_at t w p)) v (row_at t w p) z hl
        (omega (arith, lows-length t w ok.whole p hp)) (omega (arith, highs-length t w ok.whole p hp)) holds row in
        let none : Past t (set s.values v z) = λ x l. get_or-set_other s.values v x z (pos 0) (λ is. omega arith) ∙ past x l in
        let k = subst (λ (a : ℕ). Filed t w a (held_at u) v z) (i.own u hu) (assign-filed ok p v e q z stands pe holds) in
        stay-keeps q (set s.values v z) fm.2 (arrive-at (Assign v e q) pe q (held_at u) (set s.values v z) none (brings-if _ kept))
        (length-set s.values v z ∙ i.n-values) (filed-there v z k) (filed-rest v z k)
    assign-keeps v e q at pe (stops n k g) ev =
        halted (formed ok) i u hu n k
        (error-on-list t w schedule s.values p stands.point (reached-test ok p stands) own_row
        v e q at n k g pe ev)

    -- ---- test
    -- the row of a side, and that the values lie within it where that side is taken
    abbrev side : ℕ → Bool → Option Row
    side c b = narrow_of (cond_at (nodes_of t) c) b (own_of (row_at t w p))

    side-kept : (c at : ℕ) (b : Bool) (g : ℕ) → truth (cond_at (nodes_of t) c) s.values schedule at ≡ gives b g → Kept s.values (side c b)
    side-kept c at b g ev =
        laws.narrow_keeps (cond_at (nodes_of t) c) (own_of (row_at t w p)) s.values schedule at own_row b g ev

    side-keeps : (x : Point) → instruction ≡ x → (q : ℕ) → SameTask t p q
        → Brings (outcomes_by t w x (held_at u) (row_at t w p)) q (held_at u) s.values → Inv t w (moved_to s u q s.values s.owners)
    side-keeps x pe q same br =
        stay-keeps q s.values same (arrive-at x pe q (held_at u) s.values past br) i.n-values (λ x hx d. i.within x hx) i.rests

    test-keeps : (c y n at : ℕ) → instruction ≡ Test c y n → (x : Evaluation Bool) → truth (cond_at (nodes_of t) c) s.values schedule at ≡ x
        → Inv t w (test_by x s u y n).state
    unfolding FormedPoint test_by outcomes_with outcomes_by
    test-keeps c y n at pe (gives true g) ev =
        side-keeps (Test c y n) pe y (fields (Test c y n) pe).1 (brings-left _ _ (brings-if (side c true) (side-kept c at true g ev)))
    test-keeps c y n at pe (gives false g) ev =
        side-keeps (Test c y n) pe n (fields (Test c y n) pe).2
        (brings-right (outcome_if (side c true) (held_at u) y) _ (brings-if (side c false) (side-kept c at false g ev)))
    test-keeps c y n at pe (stops e k g) ev =
        halted (formed ok) i u hu e k
        (failure-on-list t w schedule s.values p stands.point (reached-test ok p stands) own_row
        c y n at e k g pe ev)

    -- ---- lock and unlock
    -- the owners after mutex a has the owner o: what holds of a and o, and of the others with theirs
    owner-each : (a : ℕ) (o : ℤ) → a < (sizes_of t).mutexes → (P : ℕ → ℤ → Type 0) → P a o → ((m : ℕ) → (m ≡ a → ⊥) → P m (owner_in s m))
        → (m : ℕ) → P m (word_of (set s.owners a o) m)
    owner-each a o ha P h rest = at_each P s.owners a o (pos 0) (omega (arith, ha, (formed ok).mutexes.high, i.n-owners)) h rest

    -- a move that changes the owner of mutex a to o, and nothing of the values
    owner-keeps : (a : ℕ) (o : ℤ) (q b : ℕ) → a < (sizes_of t).mutexes → SameTask t p q → b < 512 → Arrived t w q b s.values
        → HoldsNamed (is_number o u) (has_of b a) → ((m : ℕ) → (m ≡ a → ⊥) → has_of b m ≡ has_of (held_at u) m)
        → ((x : ℕ) → (x ≡ u → ⊥) → is_number o x ≡ owns_of s x a) → (o ≡ negsuc 0 → Inside s.values (rest_at t w a))
        → Inv t w (moved_to s u q s.values (set s.owners a o))
    owner-keeps a o q b ha same small ar mine named others rest =
        move-keeps q b s.values (set s.owners a o) same small ar i.n-values (length-set s.owners a o ∙ i.n-owners)
        (owner-each a o ha (λ m y. m < (sizes_of t).mutexes → HoldsNamed (is_number y u) (has_of b m)) (λ _. mine)
        (λ m d hm. named-same _ _ _ (named m d) (i.holds u m hu hm)))
        (λ x d. owner-each a o ha (λ m y. m < (sizes_of t).mutexes → is_number y x ≡ owns_of s x m) (λ _. others x d) (λ m _ hm. refl))
        (λ x hx d. i.within x hx)
        (owner-each a o ha (λ m y. m < (sizes_of t).mutexes → y ≡ negsuc 0 → Inside s.values (rest_at t w m)) (λ _. rest)
        (λ m _ hm z. i.rests m hm z))

    -- a free mutex is named at no point, so that the lock has an outcome: the row met with the rest row
    lock-keeps : (m q : ℕ) → instruction ≡ Lock m q → (b : Bool) → is_free (owner_in s m) ≡ b → Inv t w (lock_by b s u m q)
    unfolding FormedPoint lock_by outcomes_with outcomes_by
    lock-keeps m q pe true e =
        let fm = fields (Lock m q) pe in
        let hm : m < (sizes_of t).mutexes = fm.0 in
        let free = free-word (owner_in s m) e in
        let met = meet_rows-keeps (sizes_of t).variables (row_at t w p) (rest_at t w m) row (i.rests m hm free) in
        owner-keeps m (pos u) q (with_of (held_at u) m) hm fm.1
        (with-small (held_at u) m (held_small ok p stands) (omega (arith, (formed ok).mutexes.high)))
        (arrive-at (Lock m q) pe q (with_of (held_at u) m) s.values past (brings-only _ _ (ap not (unnamed u m hu hm free)) (brings-if _ met)))
        (owned-and-named _ _ (owner-self u) (has-with (held_at u) m)) (has-with-other (held_at u) m)
        (λ x d. owner-other u x (λ r. d (sym r)) ∙ sym (free-unowned (owner_in s m) x free)) (λ z. absurd (owned-not-free u z))
    lock-keeps m q pe false e = i

    -- a mutex that is given back is named, so that the unlock has an outcome, and the row lies within the rest row
    unlock-keeps : (m q : ℕ) → instruction ≡ Unlock m q → (b : Bool) → owns_of s u m ≡ b → Inv t w (unlock_by b s u m q)
    unfolding FormedPoint unlock_by outcomes_with outcomes_by
    unlock-keeps m q pe true e =
        let fm = fields (Unlock m q) pe in
        let hm : m < (sizes_of t).mutexes = fm.0 in
        let named = owned-named _ _ (i.holds u m hu hm) e in
        let at_rest = within-inside t w ((sizes_of t).points + m) (row_at t w p) past (unlock-within ok p m q stands pe named) row in
        owner-keeps m (negsuc 0) q (without_of (held_at u) m) hm fm.1 (without-small (held_at u) m (held_small ok p stands))
        (arrive-at (Unlock m q) pe q (without_of (held_at u) m) s.values past (brings-only _ _ named (brings-if _ row)))
        (neither _ _ refl (has-without (held_at u) m)) (has-without-other (held_at u) m)
        (λ x d. sym (is_false _ (λ r. d (owner-same (owner_in s m) x u r e)))) (λ _. at_rest)
    unlock-keeps m q pe false e = i

    pub act-keeps : (at : ℕ) (x : Point) → instruction ≡ x → Inv t w (act_of t schedule x s u at).state
    unfolding act_of
    act-keeps at End pe = i
    act-keeps at (Assign v e q) pe = assign-keeps v e q at pe _ refl
    act-keeps at (Test c y n) pe = test-keeps c y n at pe _ refl
    act-keeps at (Lock m q) pe = lock-keeps m q pe _ refl
    act-keeps at (Unlock m q) pe = unlock-keeps m q pe _ refl
