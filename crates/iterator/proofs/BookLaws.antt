-- The plan as the points are gone through. A loop over the points has the invariant `Upto t h p b`: what the plan b has of the points before p.
--     upto_start                   where the loop begins
--     upto_other, upto_assign      one point further
--     enter_head, enter_other, enter_assign      the same, as the code enters a point
--     upto_held, upto_planned      what it says after the last point
-- Assumes nothing.
use Prim.Native.Nat.{ℕ, ◌+◌, ◌<◌, ◌≤◌}
use mathlib.Core.Path.{◌≡◌, refl, sym, ap, subst, fun_ext, ◌∙◌}
use mathlib.Core.Bool.{Bool, true, false}
use mathlib.Core.List.{List, [], ◌∷◌, ◌++◌}
use native.Mathlib.Numerals.{add-one}
use native.Mathlib.Decide.{dec_lt, ℕ_discrete}
use native.Mathlib.Omega.{arith}
use borrow.Author.Count.{below_more}
use lib.IntN.{ℤ}
use lib.ListN.{length, get_or, set, replicate, length-replicate, get_or-replicate, get_or-eq_default}
use lib.Seq.{get_or-set_same, get_or-set_other, take-suc-set}
use Rattle.words.proofs.Bools.{clash}
use Rattle.words.specs.First.{first_bad}
use Rattle.table.specs.Layout.{sizes_of, points_of, task_of}
use Rattle.table.specs.Decode.{point_of}
use Rattle.table.specs.declared.checked.Table.{Table}
use Rattle.table.proofs.PassLaws.{passes}
use Rattle.table.specs.declared.Point.{Point}
use Rattle.table.specs.declared.Point.TheVariants.{End, Assign, Test, Lock, Unlock}
use Rattle.proposer.specs.Fold.{concat_below, those}
use Rattle.proposer.specs.Walk.{sets_of, mark_count, held_in as held_brought}
use Rattle.proposer.specs.Passes.{code_of, slot_of, written_to}
use Rattle.proposer.proofs.ThoseLaws.{those-more, those-same}
use Rattle.proposer.proofs.SlotLaws.{variable-below}
use Rattle.iterator.specs.declared.plan.Plan.{Plan}
use Rattle.iterator.specs.Plan.{held_in, code_count, code_at, is_assign, is_slot, slots_of, Planned}
use Rattle.iterator.specs.Book.{blank_plan, file_by, Upto}
use Rattle.iterator.proofs.TableLaws.{points_few, small}
use Rattle.iterator.proofs.SetLaws.{heads_few}
use Rattle.iterator.proofs.GoLaws.{stands}
use Rattle.iterator.proofs.HeldLaws.{held_below, held-past}
use Rattle.iterator.proofs.FilingLaws.{first_bad-same, first_bad-here, first_bad-stays, apart, apart_other, apart-here, apart-elsewhere, first_slot, first-is, later-slot, later-is, other-is}
use Rattle.std.specs.Prelude.{Option, None, Some}

-- an element of equal ones, or past them: the same
equal_at : {A : Type 0} (n i : ℕ) (x : A) → get_or (replicate n x) i x ≡ x
equal_at n i x = elim (dec_lt i n) [
  | yes l ↦ get_or-replicate n i x x l
  | no l ↦ get_or-eq_default (replicate n x) x {n = i} (omega (arith, length-replicate n x))
]

-- what holds of the elements before p, and of what is stored at p
stored : {A : Type 0} (l : List A) (d : A) {p : ℕ} {x : A} (P : ℕ → A → Type 0) → p < length l → ((q : ℕ) → q < p → P q (get_or l q d)) → P p x
    → (q : ℕ) → q < p + 1 → P q (get_or (set l p x) q d)
stored l d {p} {x} P k before here =
    below_more (λ (q : ℕ). P q (get_or (set l p x) q d)) p
    (λ q h. subst (P q) (sym (get_or-set_other l p q x d (omega arith))) (before q h))
    (subst (P p) (sym (get_or-set_same l p x d k)) here)

module _ (t : List ℤ) (h : ℕ → ℕ) where
  -- ---- before the first point
  pub upto_start : Upto t h 0 blank_plan
  unfolding those concat_below first_bad
  upto_start =
      record {
        held = λ q l. absurd (omega arith);
        free = λ q _. equal_at {A = ℕ} 256 q 0;
        task = λ q l. absurd (omega arith);
        place = λ q l. absurd (omega arith);
        variable = λ q l. absurd (omega arith);
        few = omega arith;
        listed = refl;
        head = λ c _. equal_at {A = Option ℕ} 32768 c None;
      }

  -- ---- one point further
  -- the lists have the room of their arrays
  pub record Roomy (b : Plan) : Type 0 where
    pub held : length b.held ≡ 256
    pub tasks : length b.tasks ≡ 256
    pub places : length b.places ≡ 256
    pub variables : length b.variables ≡ 256
    pub listed : length b.listed ≡ 256
    pub heads : length b.heads ≡ 32768

  module _ (p : ℕ) (b : Plan) (room : Roomy b) (m : Upto t h p b) (low : p < 256) where
    -- the held set and the task of p noted
    abbrev noted_held : List ℕ
    noted_held = set b.held p (h p)

    abbrev noted_tasks : List ℕ
    noted_tasks = set b.tasks p (task_of t p)

    held-next : (q : ℕ) → q < p + 1 → get_or noted_held q 0 ≡ h q
    held-next = stored b.held 0 (λ (q : ℕ) (s : ℕ). s ≡ h q) (omega (arith, room.held)) m.held refl

    free-next : (q : ℕ) → p + 1 ≤ q → get_or noted_held q 0 ≡ 0
    free-next q l = get_or-set_other b.held p q (h p) 0 (omega arith) ∙ m.free q (omega arith)

    task-next : (q : ℕ) → q < p + 1 → get_or noted_tasks q 0 ≡ task_of t q
    task-next = stored b.tasks 0 (λ (q : ℕ) (u : ℕ). u ≡ task_of t q) (omega (arith, room.tasks)) m.task refl

    -- no assignment
    pub upto_other : is_assign (point_of (points_of t) p) ≡ false
        → Upto t h (p + 1) (record { held = noted_held; tasks = noted_tasks; places = b.places; variables = b.variables; listed = b.listed; count = b.count; heads = b.heads })
    upto_other e =
        record {
          held = held-next;
          free = free-next;
          task = task-next;
          place = below_more _ p m.place (λ f. clash (sym f ∙ e));
          variable = below_more _ p m.variable (λ f. clash (sym f ∙ e));
          few = omega (arith, m.few);
          listed = rw (add-one p, those-same (is_slot t h) p (other-is t h p e)) m.listed;
          head = λ c l. rw (add-one p, first_bad-same (apart t h c) p (apart_other t h c p e)) (m.head c l);
        }

    module _ (e : is_assign (point_of (points_of t) p) ≡ true) (below : p < (sizes_of t).points) (code : code_at t h p < code_count t) where
      abbrev head : ℕ
      head = code_at t h p

      -- and its variable
      abbrev noted : Plan
      noted =
          record {
            held = noted_held;
            tasks = noted_tasks;
            places = b.places;
            variables = set b.variables p (written_to (point_of (points_of t) p));
            listed = b.listed;
            count = b.count;
            heads = b.heads;
          }

      variable-next : (q : ℕ) → q < p + 1 → is_assign (point_of (points_of t) q) ≡ true → get_or noted.variables q 0 ≡ written_to (point_of (points_of t) q)
      variable-next =
          stored b.variables 0 (λ (q : ℕ) (v : ℕ). is_assign (point_of (points_of t) q) ≡ true → v ≡ written_to (point_of (points_of t) q)) (omega (arith, room.variables)) m.variable
          (λ _. refl)

      place-next : (r : ℕ) → slot_of t h head ≡ Some r → (q : ℕ) → q < p + 1 → is_assign (point_of (points_of t) q) ≡ true
          → slot_of t h (code_at t h q) ≡ Some (get_or (set b.places p r) q 0)
      place-next r s =
          stored b.places 0 (λ (q : ℕ) (r : ℕ). is_assign (point_of (points_of t) q) ≡ true → slot_of t h (code_at t h q) ≡ Some r) (omega (arith, room.places)) m.place (λ _. s)

      -- heads other than that of p: nothing changes
      elsewhere : (c : ℕ) → c < code_count t → (head ≡ c → ⊥) → get_or b.heads c None ≡ first_bad (apart t h c) (p + 1)
      elsewhere c l d = rw (add-one p, first_bad-same (apart t h c) p (apart-elsewhere t h p e c d)) (m.head c l)

      upto_later : (r : ℕ) → get_or b.heads head None ≡ Some r → Upto t h (p + 1) (file_by (Some r) noted p head)
      unfolding file_by
      upto_later r w =
          let at : first_bad (apart t h head) p ≡ Some r = sym (m.head head code) ∙ w in
          record {
            held = held-next;
            free = free-next;
            task = task-next;
            place = place-next r (later-slot t h p e below r at);
            variable = variable-next;
            few = omega (arith, m.few);
            listed = rw (add-one p, those-same (is_slot t h) p (later-is t h p e below r at)) m.listed;
            head = λ c l. elim (ℕ_discrete head c) [
              | yes f ↦ subst (λ (c : ℕ). get_or b.heads c None ≡ first_bad (apart t h c) (p + 1)) f
                  (w ∙ sym (first_bad-stays (apart t h head) p (p + 1) r (omega arith) at))
              | no d ↦ elsewhere c l d
            ];
          }

      upto_first : get_or b.heads head None ≡ None → head < 32768 → Upto t h (p + 1) (file_by None noted p head)
      unfolding file_by
      upto_first w few =
          let at : first_bad (apart t h head) p ≡ None = sym (m.head head code) ∙ w in
          record {
            held = held-next;
            free = free-next;
            task = task-next;
            place = place-next p (first_slot t h p e below at);
            variable = variable-next;
            few = omega (arith, m.few);
            listed = rw (add-one p, add-one b.count, those-more (is_slot t h) p (first-is t h p e below at))
                (take-suc-set b.listed b.count p (omega (arith, m.few, room.listed)) ∙ ap (λ (l : List ℕ). l ++ (p ∷ [])) m.listed);
            head = λ c l. elim (ℕ_discrete head c) [
              | yes f ↦ subst (λ (c : ℕ). get_or (set b.heads head (Some p)) c None ≡ first_bad (apart t h c) (p + 1)) f
                  (get_or-set_same b.heads head (Some p) None (omega (arith, room.heads))
                  ∙ sym (first_bad-here (apart t h head) p (p + 1) (omega arith) at (apart-here t h p e)))
              | no d ↦ get_or-set_other b.heads head c (Some p) None (λ f. d (sym f)) ∙ elsewhere c l d
            ];
          }

      pub upto_assign : head < 32768 → Upto t h (p + 1) (file_by (get_or b.heads head None) noted p head)
      upto_assign few = by (get_or b.heads head None) refl
        where
          by : (r : Option ℕ) → get_or b.heads head None ≡ r → Upto t h (p + 1) (file_by r noted p head)
          by None w = upto_first w few
          by (Some r) w = upto_later r w

-- ---- the point p as the code enters it: s, u, v and c are its held set, task, variable and head
module _ (t : Table) (marks : List Bool) (p : ℕ) (b : Plan) (room : Roomy t.words.now (held_brought t.words.now marks) b)
    (m : Upto t.words.now (held_brought t.words.now marks) p b) (point : p < (sizes_of t.words.now).points)
    {s u : ℕ} (s-is : s ≡ held_brought t.words.now marks p) (u-is : u ≡ task_of t.words.now p) where
  abbrev h : ℕ → ℕ
  h = held_brought t.words.now marks

  pub enter_other : {x : Point} → x ≡ point_of t.points.now p → ((v e q : ℕ) → x ≡ Assign v e q → ⊥)
      → Upto t.words.now (held_brought t.words.now marks) (p + 1) (record { held = set b.held p s; tasks = set b.tasks p u; places = b.places; variables = b.variables; listed = b.listed; count = b.count; heads = b.heads })
  unfolding is_assign
  enter_other {x} read d = rw (s-is, u-is) (upto_other t.words.now h p b room m (omega (arith, points_few t.words.now t.checked)) (rw (stands t point read) (by x d)))
    where
      by : (x : Point) → ((v e q : ℕ) → x ≡ Assign v e q → ⊥) → is_assign x ≡ false
      by End d = refl
      by (Assign v e q) d = absurd (d v e q refl)
      by (Test c y n) d = refl
      by (Lock m q) d = refl
      by (Unlock m q) d = refl

  module _ {v e q : ℕ} (read : Assign v e q ≡ point_of t.points.now p) where
    assigns : is_assign (point_of (points_of t.words.now) p) ≡ true
    unfolding is_assign
    assigns = rw (stands t point read) refl

    written-is : written_to (point_of (points_of t.words.now) p) ≡ v
    unfolding written_to
    written-is = rw (stands t point read) refl

    code-is : {c : ℕ} → c ≡ code_of t.words.now u s v → c ≡ code_at t.words.now h p
    code-is e = rw (written-is, ← s-is, ← u-is) e

    pub enter_head : (u < (sizes_of t.words.now).tasks) × (s < sets_of t.words.now) × (v < (sizes_of t.words.now).variables)
    enter_head =
        let passed = passes t.words.now t.checked in (
          rw u-is (passed.owned p point).task,
          rw s-is (held_below t.words.now marks p),
          subst (λ (v : ℕ). v < (sizes_of t.words.now).variables) written-is (variable-below t.words.now passed p point),
        )

    pub enter_assign : {c : ℕ} {n : Plan} → c ≡ code_of t.words.now u s v → c < code_count t.words.now
        → n ≡ file_by (get_or b.heads c None)
        (record { held = set b.held p s; tasks = set b.tasks p u; places = b.places; variables = set b.variables p v; listed = b.listed; count = b.count; heads = b.heads }) p c
        → Upto t.words.now (held_brought t.words.now marks) (p + 1) n
    enter_assign c-is l n-is =
        let head = code-is c-is in
        let few = heads_few t.words.now t.checked in
        rw (n-is, head, s-is, u-is, ← written-is)
        (upto_assign t.words.now h p b room m (omega (arith, points_few t.words.now t.checked)) assigns point (rw head at l) (omega (arith, few, rw head at l)))

-- ---- every point, by the marks of all walks: what the passes count on
module _ (t : Table) (marks : List Bool) (all : length marks ≡ mark_count t.words.now) (n : ℕ) (b : Plan)
    (m : Upto t.words.now (held_brought t.words.now marks) n b) (within : n ≤ t.sizes.points) (end : t.sizes.points ≤ n) where
  points-is : n ≡ (sizes_of t.words.now).points
  points-is = omega (arith, within, end, (small t).points-are)

  pub upto_held : (q : ℕ) → held_in b q ≡ held_brought t.words.now marks q
  upto_held q = elim (dec_lt q n) [
    | yes l ↦ m.held q l
    | no l ↦ m.free q (omega arith) ∙ sym (held-past t.words.now marks q all (omega (arith, points-is)))
  ]

  -- the held sets are those brought
  brought-is : held_brought t.words.now marks ≡ held_in b
  brought-is = fun_ext (λ q. sym (upto_held q))

  pub upto_planned : Planned t.words.now b
  unfolding slots_of slot_of
  upto_planned =
      let u = subst (λ (f : ℕ → ℕ). Upto t.words.now f (sizes_of t.words.now).points b) brought-is
      (subst (λ (k : ℕ). Upto t.words.now (held_brought t.words.now marks) k b) points-is m) in
      record {
        held = λ q l. rw (upto_held q) (held_below t.words.now marks q);
        task = u.task;
        place = u.place;
        variable = u.variable;
        few = omega (arith, u.few, points_few t.words.now t.checked);
        listed = u.listed;
        head = u.head;
      }
