-- What a verdict tells of the stages: acceptance gives every rule and leaves the list at the buffer's front, and a 17 gives the words that are
-- needed.
-- Assumes nothing.
use Prim.Native.Nat.{ℕ, ◌*◌, ◌/◌, ◌<◌, ◌≤◌, zero-le}
use mathlib.Core.Path.{◌≡◌, refl, sym, ap, subst, ◌∙◌}
use mathlib.Core.Bool.{Bool, true, false, ◌||◌}
use mathlib.Core.List.{List}
use native.Mathlib.Omega.{arith}
use native.Mathlib.Decide.{dec_lt}
use borrow.Author.Tests.{leb-true, leb-false, eqb-true, eq-eqb, le-ltb}
use lib.Dec.{eqb, leb, ltb}
use lib.IntN.{ℤ}
use lib.ListN.{length, take, drop}
use lib.Seq.{take-append_seam}
use Rattle.words.specs.First.{unless}
use Rattle.words.specs.Stages.{refuse, and_then, number_by, buffer_by, Stage, passed, broken, refused_as}
use Rattle.words.proofs.Bools.{clash}
use Rattle.words.proofs.FirstLaws.{first_bad-none}
use Rattle.words.proofs.StageLaws.{refuse-found, refuse-later, test-passed, and_then-first, and_then-later}
use Rattle.table.specs.Layout.{sizes_of}
use Rattle.table.specs.Validate.{sizes_stage, parts_stage, validate_of}
use Rattle.rules.specs.Proposal.{proposal_length}
use Rattle.rules.specs.Rules.{rule8, rule9, rule10, rule11, rule12, rule13, rule14, rule15, rule16}
use Rattle.checker.specs.AlarmList.{raised, alarm_words}
use Rattle.rules.specs.declared.Scope.{Scope}
use Rattle.rules.specs.Examine.{whole_of, layout_stage, words_stage, start_stage, outcome_stage, shared_stage, ready_of, examined_of}
use Rattle.words.specs.First.{places, first_bad_in}
use Rattle.checker.specs.Check.{room_stage, stages_of, verdict_by, verdict_numbers, check_of, buffer_of}
use Rattle.checker.specs.Laws.{Accepts}
use Rattle.checker.proofs.ListLaws.{pairs-even}
use Rattle.std.specs.Prelude.{Option, None, Some, Ok, Err}
use Rattle.words.specs.declared.refusal.Rule.TheVariants.{Length, Size, Share, Node, Point, Use, Reach, Match, Range, Order, Start, Locks, Flow, Write, Disturb, Rest, Room}
use Rattle.words.specs.declared.refusal.Rule.{Rule}
use Rattle.words.specs.declared.refusal.Refusal.{Refusal}

words-even : (t w : List ℤ) → length (alarm_words t w) ≡ 2 * (length (alarm_words t w) / 2)
unfolding alarm_words
words-even t w = pairs-even (raised t w) (sizes_of t).nodes

-- ---- acceptance
accepted-passed : (s : Stage) (n count : ℕ) → verdict_by s n ≡ Ok count → (s ≡ passed) × (n ≡ count)
unfolding verdict_by
accepted-passed (Ok u) n count e = (refl, cc)
accepted-passed (Err r) n count e = let z : ◌≡◌ {A = ℕ} 0 1 = cc in absurd (omega arith)

-- ---- a search over a range of places that found nothing
in-range : (f : ℕ → Bool) (from to : ℕ) → first_bad_in f (places from to) ≡ None → (k : ℕ) → from ≤ k → k < to → f k ≡ true
unfolding first_bad_in
in-range f from to e k l h = subst (λ (b : Bool). b || f k ≡ true) (le-ltb k from l) (first_bad-none (λ k. ltb k from || f k) to e k h)

in_all : (f : ℕ → Bool) (to : ℕ) → first_bad_in f (places 0 to) ≡ None → (k : ℕ) → k < to → f k ≡ true
in_all f to e k h = in-range f 0 to e k zero-le h

-- over two ranges, the second from the end of the first
in_two : (f : ℕ → Bool) (middle to : ℕ) → first_bad_in f (places 0 middle) ≡ None → first_bad_in f (places middle to) ≡ None → (k : ℕ) → k < to → f k ≡ true
in_two f middle to e g k h = by (dec_lt k middle)
  where
    by : Dec (k < middle) → f k ≡ true
    by (yes l) = in_all f middle e k l
    by (no l) = in-range f middle to g k (omega arith) h

-- a name that begins with `at` is what is left of the stages from that rule on
pub accepts : (t w : List ℤ) (room count : ℕ) → check_of t w room ≡ Ok count → Accepts t w room count
unfolding layout_stage words_stage start_stage outcome_stage shared_stage ready_of examined_of room_stage stages_of check_of
accepts t w room count e =
    let told = accepted-passed (stages_of t w room) (length (alarm_words t w) / 2) count e in
    let even = words-even t w in
    let is : length (alarm_words t w) ≡ 2 * count = even ∙ ap (λ (n : ℕ). 2 * n) told.1 in
    let examined = and_then-first (examined_of t w) _ told.0 in
    let at_room = and_then-later (examined_of t w) _ told.0 in
    let ready = and_then-first (ready_of t w) _ examined in
    let of-points = and_then-later (ready_of t w) _ examined in
    let of-proposal = and_then-later (validate_of t) _ ready in
    let at-short = and_then-first (layout_stage t w) _ of-proposal in
    let at-match = refuse-later Reach _ _ at-short in
    let at_length = refuse-later Match _ _ at-match in
    let of_words = and_then-later (layout_stage t w) _ of-proposal in
    let at-range = and_then-first (words_stage t w) _ of_words in
    let at-order = refuse-later Range _ _ at-range in
    let at-start = and_then-later (words_stage t w) _ of_words in
    let at-start-rest = refuse-later Start _ _ at-start in
    let at-locks = and_then-first (outcome_stage t w (whole_of t w)) _ of-points in
    let at-flow = refuse-later Locks _ _ at-locks in
    let at-write = refuse-later Flow _ _ at-flow in
    let at-disturb = and_then-later (outcome_stage t w (whole_of t w)) _ of-points in
    let at_rest = refuse-later Disturb _ _ at-disturb in
    let at-rest-entry = refuse-later Rest _ _ at_rest in
    let room_for = leb-true (length (alarm_words t w)) room (test-passed Room _ _ _ at_room) in
    record {
      table = and_then-first (validate_of t) _ ready;
      whole = eqb-true (length w) (proposal_length t w) (test-passed Reach _ _ _ at_length);
      match = first_bad-none (rule8 t w) _ (refuse-found Match _ _ at-match);
      range = first_bad-none (rule9 t w) _ (refuse-found Range _ _ at-range);
      order = first_bad-none (rule10 t w) _ (refuse-found Order _ _ at-order);
      start = in_two (rule11 t w) _ _ (refuse-found Start _ _ at-start) (refuse-found Start _ _ at-start-rest);
      locks = in_all (rule12 t w) _ (refuse-found Locks _ _ at-locks);
      flow = in_all (rule13 t w) _ (refuse-found Flow _ _ at-flow);
      write = in_all (rule14 t w) _ (refuse-found Write _ _ at-write);
      disturb = in_all (rule15 t w) _ (refuse-found Disturb _ _ at-disturb);
      rest = in_two (rule16 t w) _ _ (refuse-found Rest _ _ at_rest) (refuse-found Rest _ _ at-rest-entry);
      fits = omega arith;
      listed = is;
    }

-- the words that a stage that passed leaves at a buffer's front
passed-front : (s : Stage) (ws buffer : List ℤ) → s ≡ passed → take (length ws) (buffer_by s ws buffer) ≡ ws
unfolding buffer_by
passed-front s ws buffer e = rw e (take-append_seam ws (drop (length ws) buffer))

-- those of acceptance, as many as the count says, are the list's
pub accepted-buffer : (t w buffer : List ℤ) (count : ℕ) → check_of t w (length buffer) ≡ Ok count → take (2 * count) (buffer_of t w buffer) ≡ alarm_words t w
unfolding check_of buffer_of
accepted-buffer t w buffer count e =
    let passed = (accepted-passed (stages_of t w (length buffer)) (length (alarm_words t w) / 2) count e).0 in
    let listed = (accepts t w (length buffer) count e).listed in
    ap (λ (n : ℕ). take n (buffer_of t w buffer)) (sym listed) ∙ passed-front (stages_of t w (length buffer)) (alarm_words t w) buffer passed

-- ---- a refusal of another rule comes from the later rules
same-broken : {rule r : Rule} {p q : ℕ} → ◌≡◌ {A = Stage} (broken rule p) (broken r q) → (rule ≡ r) × (p ≡ q)
same-broken {rule} {r} {p} {q} e =
    let same : ◌≡◌ {A = Refusal} (record { rule = rule; place = p }) (record { rule = r; place = q }) = cc in
    (ap (λ (x : Refusal). x.rule) same, ap (λ (x : Refusal). x.place) same)

refused-broken : (s : Stage) (n : ℕ) (rule : Rule) (p : ℕ) → verdict_by s n ≡ broken rule p → s ≡ broken rule p
unfolding verdict_by
refused-broken (Ok u) n rule p e = let z : ◌≡◌ {A = ℕ} 0 1 = cc in absurd (omega arith)
refused-broken (Err r) n rule p e = cc

refuse-other : (rule : Rule) (s : Option ℕ) (later : Stage) {r : Rule} {p : ℕ} → refuse rule s later ≡ broken r p → eqb (number_by rule) (number_by r) ≡ false
    → later ≡ broken r p
unfolding refuse
refuse-other rule None later e q = e
refuse-other rule (Some k) later {r} e q = clash (sym (eq-eqb _ _ (ap number_by (same-broken e).0)) ∙ q)

and_then-other : (s later : Stage) {r : Rule} {p : ℕ} → and_then s later ≡ broken r p → (s ≡ broken r p → ⊥) → later ≡ broken r p
unfolding and_then
and_then-other (Ok u) later e h = e
and_then-other (Err r) later e h = absurd (h e)

passed-broken : {r : Rule} {p : ℕ} → passed ≡ broken r p → ⊥
passed-broken e = let z : ◌≡◌ {A = ℕ} 0 1 = cc in omega arith

-- the rules of the table are 1 to 6
table-other : (t : List ℤ) (p : ℕ) → validate_of t ≡ broken Room p → ⊥
unfolding sizes_stage parts_stage number_by
table-other t p e =
    let at_size = refuse-other Length _ _ e refl in
    let at_length = refuse-other Size _ _ at_size refl in
    let at-share = refuse-other Length _ _ at_length refl in
    let at_sum = refuse-other Share _ _ at-share refl in
    let at-node = refuse-other Share _ _ at_sum refl in
    let at-point = refuse-other Node _ _ at-node refl in
    let at-use = refuse-other Point _ _ at-point refl in
    passed-broken (refuse-other Use _ _ at-use refl)

-- and those of the proposal before the list are 7 to 16
layout-other : (t w : List ℤ) (p : ℕ) → layout_stage t w ≡ broken Room p → ⊥
unfolding layout_stage number_by
layout-other t w p e = passed-broken (refuse-other Reach _ _ (refuse-other Match _ _ (refuse-other Reach _ _ e refl) refl) refl)

words-other : (t w : List ℤ) (p : ℕ) → words_stage t w ≡ broken Room p → ⊥
unfolding words_stage number_by
words-other t w p e = passed-broken (refuse-other Order _ _ (refuse-other Range _ _ e refl) refl)

start-other : (t w : List ℤ) (s : Scope) (p : ℕ) → start_stage t w s ≡ broken Room p → ⊥
unfolding start_stage number_by
start-other t w s p e = passed-broken (refuse-other Start _ _ (refuse-other Start _ _ e refl) refl)

outcome-other : (t w : List ℤ) (s : Scope) (p : ℕ) → outcome_stage t w s ≡ broken Room p → ⊥
unfolding outcome_stage number_by
outcome-other t w s p e = passed-broken (refuse-other Write _ _ (refuse-other Flow _ _ (refuse-other Locks _ _ e refl) refl) refl)

shared-other : (t w : List ℤ) (s : Scope) (p : ℕ) → shared_stage t w s ≡ broken Room p → ⊥
unfolding shared_stage number_by
shared-other t w s p e = passed-broken (refuse-other Rest _ _ (refuse-other Rest _ _ (refuse-other Disturb _ _ e refl) refl) refl)

ready-other : (t w : List ℤ) (p : ℕ) → ready_of t w ≡ broken Room p → ⊥
unfolding ready_of
ready-other t w p e =
    let of-proposal = and_then-other (validate_of t) _ e (table-other t p) in
    let of_words = and_then-other (layout_stage t w) _ of-proposal (layout-other t w p) in
    start-other t w (whole_of t w) p (and_then-other (words_stage t w) _ of_words (words-other t w p))

examined-other : (t w : List ℤ) (p : ℕ) → examined_of t w ≡ broken Room p → ⊥
unfolding examined_of
examined-other t w p e =
    let of-points = and_then-other (ready_of t w) _ e (ready-other t w p) in
    shared-other t w (whole_of t w) p (and_then-other (outcome_stage t w (whole_of t w)) _ of-points (outcome-other t w (whole_of t w) p))

room-short : (n room p : ℕ) (s : Bool) → leb n room ≡ s → refuse Room (unless s n) passed ≡ broken Room p → (p ≡ n) × (room < p)
unfolding refuse unless
room-short n room p true q e = let z : ◌≡◌ {A = ℕ} 0 1 = cc in absurd (omega arith)
room-short n room p false q e = let is : p ≡ n = sym (same-broken e).1 in let short = leb-false n room q in (is, omega arith)

pub room-number : (t w : List ℤ) (room place : ℕ) → check_of t w room ≡ broken Room place → verdict_numbers (check_of t w room) ≡ refused_as 17 place
unfolding verdict_numbers number_by
room-number t w room place e = ap verdict_numbers e

pub room-needed : (t w : List ℤ) (room place : ℕ) → check_of t w room ≡ broken Room place → (place ≡ length (alarm_words t w)) × (room < place)
unfolding layout_stage words_stage start_stage outcome_stage shared_stage ready_of examined_of room_stage stages_of check_of
room-needed t w room place e =
    let told = refused-broken (stages_of t w room) (length (alarm_words t w) / 2) Room place e in
    let at_room = and_then-other (examined_of t w) _ told (examined-other t w place) in
    room-short (length (alarm_words t w)) room place (leb (length (alarm_words t w)) room) refl at_room
