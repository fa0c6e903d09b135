-- Lists of alarms: what a list made of two lists, or of an operation's flags, lists; that all alarms are of kind 1 or 2; and that the marks of a
-- list of such alarms are that set of pairs.
-- Assumes nothing.
use Prim.Native.Nat.{ℕ, zero, suc, ◌<◌}
use mathlib.Core.Path.{◌≡◌, refl, sym, ap, ◌∙◌}
use mathlib.Core.Bool.{Bool, true, false, ◌&&◌, ◌||◌, or-false, or_assoc}
use mathlib.Core.List.{List, [], ◌∷◌, ◌++◌}
use mathlib.Core.Logic.{inl, inr}
use native.Mathlib.Omega.{arith}
use lib.Dec.{eqb}
use lib.ListN.{length, set, get_or, replicate, length-set, length-replicate, get_or-replicate}
use Rattle.interval.specs.declared.Computed.{Computed}
use Rattle.std.proofs.lemmas.Grind.{common_steps}
use Rattle.words.proofs.Bools.{clash, or_left, or_right, or_cases}
use Rattle.analysis.specs.declared.Alarm.{Alarm}
use Rattle.analysis.specs.Rows.{Row}
use Rattle.analysis.specs.Alarms.{alarm_of, alarm_if, told_of, lists, place_of, marked_of}
use Rattle.analysis.specs.Analysis.{alarms_on}
use Rattle.analysis.specs.Laws.{IsKind, Kinds}
use Rattle.std.specs.Prelude.{None, Option, Some}

abbrev pub Listed : ℕ → ℕ → List Alarm → Type 0
Listed n k l = lists n k l ≡ true

head-listed : (a : Alarm) (l : List Alarm) → Listed a.node a.kind (a ∷ l)
unfolding lists
head-listed a l = grind (arith, common_steps)

-- ---- two lists together
pub lists-append : (n k : ℕ) (l m : List Alarm) → lists n k (l ++ m) ≡ lists n k l || lists n k m
unfolding lists
lists-append n k [] m = refl
lists-append n k (a ∷ l) m = rw (lists-append n k l m) (sym (or_assoc (eqb a.node n && eqb a.kind k) (lists n k l) (lists n k m)))

pub listed-left : (n k : ℕ) (l m : List Alarm) → Listed n k l → Listed n k (l ++ m)
listed-left n k l m h = lists-append n k l m ∙ or_left (lists n k m) h

pub listed-right : (n k : ℕ) (l m : List Alarm) → Listed n k m → Listed n k (l ++ m)
listed-right n k l m h = lists-append n k l m ∙ or_right (lists n k l) h

-- ---- the alarms of an operation
alarm_if-listed : (n k : ℕ) → Listed n k (alarm_if true n k)
unfolding alarm_if
alarm_if-listed n k = head-listed (alarm_of n k) []

pub overflow-listed : (n : ℕ) (o : Computed) → o.overflow ≡ true → Listed n 1 (told_of n o)
unfolding told_of
overflow-listed n o e = listed-left n 1 (alarm_if o.overflow n 1) (alarm_if o.zero n 2) (rw e (alarm_if-listed n 1))

pub zero-listed : (n : ℕ) (o : Computed) → o.zero ≡ true → Listed n 2 (told_of n o)
unfolding told_of
zero-listed n o e = listed-right n 2 (alarm_if o.overflow n 1) (alarm_if o.zero n 2) (rw e (alarm_if-listed n 2))

-- ---- their kinds
pub empty-kinds : Kinds []
unfolding lists
empty-kinds = record { kind = λ n k e. clash (sym e) }

cons-kinds : (a : Alarm) (l : List Alarm) → IsKind a.kind → Kinds l → Kinds (a ∷ l)
unfolding lists
cons-kinds a l h s = grind (arith, common_steps)

head-kind : (a : Alarm) (l : List Alarm) → Kinds (a ∷ l) → IsKind a.kind
head-kind a l s = s.kind a.node a.kind (head-listed a l)

tail-kinds : (a : Alarm) (l : List Alarm) → Kinds (a ∷ l) → Kinds l
unfolding lists
tail-kinds a l s = grind (arith, common_steps)

pub append-kinds : (l m : List Alarm) → Kinds l → Kinds m → Kinds (l ++ m)
append-kinds l m h s = record { kind = λ n k e. or_cases (lists n k l) (lists n k m) (sym (lists-append n k l m) ∙ e) (h.kind n k) (s.kind n k) }

alarm_if-kinds : (t : Bool) (n k : ℕ) → IsKind k → Kinds (alarm_if t n k)
unfolding alarm_if
alarm_if-kinds true n k h = cons-kinds (alarm_of n k) [] h empty-kinds
alarm_if-kinds false n k h = empty-kinds

pub told-kinds : (n : ℕ) (o : Computed) → Kinds (told_of n o)
unfolding told_of
told-kinds n o = append-kinds _ _ (alarm_if-kinds o.overflow n 1 (inl refl)) (alarm_if-kinds o.zero n 2 (inr refl))

pub alarms_on-kinds : (s : Option Row) (f : Row → List Alarm) → ((r : Row) → Kinds (f r)) → Kinds (alarms_on s f)
unfolding alarms_on
alarms_on-kinds None f h = empty-kinds
alarms_on-kinds (Some r) f h = h r

-- ---- marks
pub marked_append : (marks : List ℕ) (l m : List Alarm) → marked_of marks (l ++ m) ≡ marked_of (marked_of marks l) m
unfolding marked_of
marked_append marks [] m = refl
marked_append marks (a ∷ l) m = marked_append (set marks (place_of a.node a.kind) 1) l m

set_comm : (l : List ℕ) (i j a : ℕ) → set (set l i a) j a ≡ set (set l j a) i a
set_comm [] i j a = refl
set_comm (x ∷ l) zero zero a = refl
set_comm (x ∷ l) zero (suc j) a = refl
set_comm (x ∷ l) (suc i) zero a = refl
set_comm (x ∷ l) (suc i) (suc j) a = ap (λ (m : List ℕ). x ∷ m) (set_comm l i j a)

-- one mark, before others or after them
marked-after : (marks : List ℕ) (i : ℕ) (l : List Alarm) → marked_of (set marks i 1) l ≡ set (marked_of marks l) i 1
unfolding marked_of
marked-after marks i [] = refl
marked-after marks i (a ∷ l) =
    ap (λ (m : List ℕ). marked_of m l) (set_comm marks i (place_of a.node a.kind) 1) ∙ marked-after (set marks (place_of a.node a.kind) 1) i l

marked-comm : (marks : List ℕ) (l m : List Alarm) → marked_of (marked_of marks l) m ≡ marked_of (marked_of marks m) l
unfolding marked_of
marked-comm marks [] m = refl
marked-comm marks (a ∷ l) m =
    let i = place_of a.node a.kind in
    marked-comm (set marks i 1) l m ∙ ap (λ (n : List ℕ). marked_of n l) (marked-after marks i m)

-- the last two of three lists are marked in either order
pub marked-swap : (marks : List ℕ) (l m n : List Alarm) → marked_of marks (l ++ (m ++ n)) ≡ marked_of marks (l ++ (n ++ m))
marked-swap marks l m n =
    let both : (m n : List Alarm) → marked_of marks (l ++ (m ++ n)) ≡ marked_of (marked_of (marked_of marks l) m) n = λ m n. marked_append marks l (m ++ n) ∙ marked_append _ m n in
    both m n ∙ marked-comm (marked_of marks l) m n ∙ sym (both n m)

module _ (n k : ℕ) (h : IsKind k) where
  abbrev marked : List ℕ → Bool
  marked marks = eqb (get_or marks (place_of n k) 0) 1

  -- one mark more: of kinds 1 and 2 no two pairs have one place
  mark-is : (marks : List ℕ) (a : Alarm) → IsKind a.kind → place_of n k < length marks → marked (set marks (place_of a.node a.kind) 1) ≡ marked marks || (eqb a.node n && eqb a.kind k)
  mark-is marks a i room = grind (arith, common_steps)

  marked-is : (l : List Alarm) (marks : List ℕ) → Kinds l → place_of n k < length marks → marked (marked_of marks l) ≡ marked marks || lists n k l
  unfolding marked_of lists
  marked-is [] marks s room = sym (or-false (marked marks))
  marked-is (a ∷ l) marks s room =
      marked-is l (set marks (place_of a.node a.kind) 1) (tail-kinds a l s) (rw (length-set marks (place_of a.node a.kind) 1) room)
      ∙ rw (mark-is marks a (head-kind a l s) room) (or_assoc (marked marks) (eqb a.node n && eqb a.kind k) (lists n k l))

pub marked-lists : (l : List Alarm) (room n k : ℕ) → Kinds l → IsKind k → place_of n k < room → eqb (get_or (marked_of (replicate room 0) l) (place_of n k) 0) 1 ≡ lists n k l
marked-lists l room n k s h lt = marked-is n k h l (replicate room 0) s (rw length-replicate lt) ∙ rw get_or-replicate
