-- The refusals of a proposer in their order, what it gives and leaves in the buffer, and what its parts come to together.
-- Assumes nothing.
use Prim.Native.Nat.{ℕ, ◌≤◌}
use mathlib.Core.Path.{◌≡◌, refl, sym, ap, fun_ext, ◌∙◌}
use mathlib.Core.Bool.{Bool, true, false}
use mathlib.Core.List.{List, ◌++◌}
use native.Mathlib.Decide.{dec_le}
use native.Mathlib.Omega.{arith}
use borrow.Author.Tests.{leb-true, leb-false, lt-ltb, le-ltb}
use lib.Dec.{leb, ltb}
use lib.IntN.{ℤ}
use lib.ListN.{length, drop, length-replicate, get_or-replicate, get_or-eq_default}
use Rattle.std.specs.Bool.{then_some}
use Rattle.words.specs.First.{unless, first_bad}
use Rattle.words.specs.Stages.{passed, stage_of, stage_numbers, refuse, buffer_by}
use Rattle.words.specs.declared.refusal.Rule.TheVariants.{Rise, Space, Walks}
use Rattle.words.specs.declared.refusal.Refusal.{Refusal}
use Rattle.words.proofs.Bools.{clash}
use Rattle.words.proofs.FirstLaws.{first_bad-none, unless-nothing}
use Rattle.words.proofs.StageLaws.{pass, go, held, leaves, stays}
use Rattle.table.specs.Layout.{sizes_of}
use Rattle.table.specs.Validate.{validate_of}
use Rattle.analysis.specs.declared.Row.{Row}
use Rattle.proposer.specs.declared.Proposed.{Proposed}
use Rattle.proposer.specs.Walk.{walks_of, one_in, rule18, held_in, held_at}
use Rattle.proposer.specs.Widen.{place_in}
use Rattle.proposer.specs.Passes.{State, Made, start_of, pass_of, pass_bound, made_from, made_of}
use Rattle.proposer.specs.Propose.{rule19, words_needed, propose_stage, made_for, words_of, proposed_of, propose_by, propose_of, given_by, buffer_of}
use Rattle.iterator.specs.Plan.{Filed}
use Rattle.std.specs.Prelude.{Option, None, Result, Ok, Err}

-- ---- the answer and the buffer
abbrev pub Answers : List ℤ → List ℤ → List ℤ → Result Proposed Refusal → List ℤ → Type 0
Answers t ts before r after =
    record {
      value : r ≡ propose_of t ts (length before);
      stage_value : stage_numbers (stage_of r) ≡ stage_numbers (propose_stage t ts (length before));
      given : given_by r ≡ given_by (propose_of t ts (length before));
      proposal_after : after ≡ buffer_of t ts before;
    }

-- w are the words of the table t that was read
module _ {w t : List ℤ} (same : w ≡ t) (ts before : List ℤ) where
  refused : {r : Result Proposed Refusal} {e : Refusal} → r ≡ Err e → Err e ≡ propose_stage w ts (length before) → Answers t ts before r before
  unfolding propose_of propose_by buffer_of buffer_by stage_of
  refused is q =
      rw (is, ← same) (record { value = rw (← q) refl; stage_value = rw (← q) refl; given = rw (← q) refl; proposal_after = rw (← q) refl })

  pub table_refuses : {r : Result Proposed Refusal} {e : Refusal} → r ≡ Err e → Err e ≡ validate_of w → Answers t ts before r before
  unfolding propose_stage
  table_refuses is q = refused is (stays _ (sym q))

  -- ---- the refusals after those of the table, as the code makes them one after the other
  module _ (valid : validate_of w ≡ passed) {f : Option ℕ} (falls : f ≡ first_bad (rule19 ts) (length ts)) where
    pub rise_refuses : {r : Result Proposed Refusal} {e : Refusal} → r ≡ Err e → Err e ≡ refuse Rise f passed → Answers t ts before r before
    unfolding propose_stage
    rise_refuses is q = refused is (go valid (leaves Rise _ _ (sym (rw falls at q))))

    module _ {u : Unit {0}} (rises : Ok u ≡ refuse Rise f passed) {need : ℕ} (needs : need ≡ words_needed w) {g : Option ℕ}
        (short : g ≡ then_some (ltb (length before) need) need) where
      rising : first_bad (rule19 ts) (length ts) ≡ None
      rising = held Rise _ (sym (rw falls at rises))

      -- 'after the 32nd' none rises
      pub few_rise : length ts ≤ 32
      unfolding rule19
      few_rise = elim (dec_le (length ts) 32) [
        | yes l ↦ l
        | no m ↦ clash (sym (first_bad-none (rule19 ts) (length ts) rising 32 (omega arith)))
      ]

      short-is : g ≡ unless (leb (words_needed w) (length before)) (words_needed w)
      unfolding unless
      short-is = short ∙ rw needs (by _ refl)
        where
          by : (b : Bool) → leb (words_needed w) (length before) ≡ b → then_some (ltb (length before) (words_needed w)) (words_needed w) ≡ unless b (words_needed w)
          by true e = rw (le-ltb (length before) (words_needed w) (leb-true _ _ e)) refl
          by false e = rw (lt-ltb (length before) (words_needed w) (leb-false _ _ e)) refl

      pub space_refuses : {r : Result Proposed Refusal} {e : Refusal} → r ≡ Err e → Err e ≡ refuse Space g passed → Answers t ts before r before
      unfolding propose_stage
      space_refuses is q = refused is (go valid (pass Rise rising (leaves Space _ _ (sym (rw short-is at q)))))

      module _ {v : Unit {0}} (fits : Ok v ≡ refuse Space g passed) where
        ample : unless (leb (words_needed w) (length before)) (words_needed w) ≡ None
        ample = held Space _ (sym (rw short-is at fits))

        pub room_for : words_needed w ≤ length before
        room_for = leb-true _ _ (unless-nothing _ _ ample)

        module _ {marks : List Bool} (walked : marks ≡ walks_of w) {j : Option ℕ} (joins : j ≡ first_bad (one_in w marks) (sizes_of w).points) where
          joins-is : j ≡ first_bad (rule18 w) (sizes_of w).points
          unfolding rule18
          joins-is = joins ∙ rw walked refl

          pub walks_refuse : {r : Result Proposed Refusal} {e : Refusal} → r ≡ Err e → Err e ≡ refuse Walks j passed → Answers t ts before r before
          unfolding propose_stage
          walks_refuse is q = refused is (go valid (pass Rise rising (pass Space ample (leaves Walks _ _ (sym (rw joins-is at q))))))

          -- and where no refusal is left
          none-left : {u : Unit {0}} → Ok u ≡ refuse Walks j passed → passed ≡ propose_stage w ts (length before)
          unfolding propose_stage
          none-left q = go valid (pass Rise rising (pass Space ample (pass Walks (held Walks _ (sym (rw joins-is at q))) refl)))

          pub proposed : {u : Unit {0}} {r : Proposed} {after : List ℤ} → Ok u ≡ refuse Walks j passed
              → r ≡ record { words = length (proposed_of w ts); passes = (made_for w ts).passes }
              → after ≡ proposed_of w ts ++ drop (length (proposed_of w ts)) before → Answers t ts before (Ok r) after
          unfolding propose_of propose_by buffer_of buffer_by stage_of
          proposed q is e =
              let none = none-left q in
              rw (← same) (record { value = rw (← none, is) refl; stage_value = rw (← none) refl; given = rw (← none, is) refl; proposal_after = rw (← none) e })

-- ---- no entry is there at the start
pub start_filed : (t : List ℤ) (h : ℕ → ℕ) {s : State} → s ≡ start_of t → Filed t h s.entries
unfolding start_of
start_filed t h is = rw is (record { elsewhere = λ q _. none q })
  where
    none : (q : ℕ) → place_in (start_of t).entries q ≡ None
    none q = elim (dec_le (sizes_of t).points q) [
      | yes l ↦ get_or-eq_default _ _ {n = q} (omega (arith, length-replicate {A = Option Row} (sizes_of t).points None))
      | no l ↦ get_or-replicate {A = Option Row} (sizes_of t).points q None None (omega arith)
    ]

-- ---- the held sets of the plan, by the marks of all walks
pub marks_held : (t : List ℤ) {marks : List Bool} {h : ℕ → ℕ} → marks ≡ walks_of t → ((p : ℕ) → h p ≡ held_in t marks p) → h ≡ held_at t
unfolding held_at
marks_held t walked is = fun_ext (λ p. is p ∙ ap (λ (m : List Bool). held_in t m p) walked)

-- ---- where the state at the end and the number of passes are those of a call from the start, the words are those of the proposal
module _ (t ts : List ℤ) {h : ℕ → ℕ} (held : h ≡ held_at t) {s end : State} (start : s ≡ start_of t) {n : ℕ}
    (made : record { state = end; passes = n } ≡ made_from (pass_of t ts h) (pass_bound t ts) s 0) where
  made-is : record { state = end; passes = n } ≡ made_for t ts
  unfolding made_for made_of
  made-is = rw (start, held) at made

  words-are : words_of t h end ≡ proposed_of t ts
  unfolding proposed_of
  words-are = ap (λ (k : ℕ → ℕ). words_of t k end) held ∙ ap (λ (m : Made). words_of t (held_at t) m.state) made-is

  pub result_is : {words : ℕ} → words ≡ length (words_of t h end)
      → ◌≡◌ {A = Proposed} (record { words = words; passes = n }) (record { words = length (proposed_of t ts); passes = (made_for t ts).passes })
  result_is e =
      let passes : n ≡ (made_for t ts).passes = ap (λ (m : Made). m.passes) made-is in
      rw (e, words-are, passes) refl

  pub buffer_is : {words : ℕ} (before : List ℤ) {after : List ℤ} → words ≡ length (words_of t h end) → after ≡ words_of t h end ++ drop words before
      → after ≡ proposed_of t ts ++ drop (length (proposed_of t ts)) before
  buffer_is before e f = rw (← words-are, ← e) f
