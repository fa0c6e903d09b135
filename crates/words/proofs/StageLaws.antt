-- A stage as a chain of rules, `refuse rule search later`, and the stages in a row, `and_then stage later`. Some a `return` of the code:
--     pass, pass-if     a rule whose search found nothing, or whose one test held: the stage is what the later rules say
--     halt, halt-if     the rule whose search found a place, or whose one test failed: the stage is broken there
--     go, stop          the same for `and_then`: a stage that passed, and the one that is broken
-- So a `return` is answered by one `pass` for each rule before it, and one `halt`.
-- What a stage that passed tells:
--     refuse-found, refuse-later     of `refuse`: its search found nothing; the later rules passed
--     test-passed                    of `refuse` at one test: the test held
--     and_then-first, and_then-later   of `and_then`
-- Where a function gives a stage:
-- At a `?` on `refuse(rule, found)`, and at one on a whole stage:
--     held, leaves      it went on, so the search found nothing; it left, and so does the chain
--     passes, stays     the same of a stage: it passed; it left, and so do the stages in a row
--     numbered          it is the stage, and has that stage's numbers
-- Assumes nothing.
use Prim.Native.Nat.{ℕ}
use mathlib.Core.Path.{◌≡◌, refl, sym, ap, ◌∙◌}
use mathlib.Core.Bool.{Bool, true, false}
use native.Mathlib.Omega.{arith}
use Rattle.std.specs.Prelude.{Option, None, Some, Ok, Err}
use Rattle.words.specs.declared.refusal.Rule.{Rule}
use Rattle.words.specs.declared.refusal.Refusal.{Refusal}
use Rattle.words.specs.First.{unless}
use Rattle.words.specs.Stages.{Stage, passed, broken, refuse, and_then, stage_numbers}

pub pass : (rule : Rule) {s : Option ℕ} {later v : Stage} → s ≡ None → v ≡ later → v ≡ refuse rule s later
unfolding refuse
pass rule e q = rw e q

pub halt : (later : Stage) {rule : Rule} {p : ℕ} {s : Option ℕ} → s ≡ Some p → broken rule p ≡ refuse rule s later
unfolding refuse
halt later e = rw e

pub pass-if : (rule : Rule) (p : ℕ) {b : Bool} {later v : Stage} → b ≡ true → v ≡ later → v ≡ refuse rule (unless b p) later
unfolding refuse unless
pass-if rule p e q = rw e q

-- q is the place as the code has it
pub halt-if : (later : Stage) {rule : Rule} {p q : ℕ} {b : Bool} → b ≡ false → q ≡ p → broken rule q ≡ refuse rule (unless b p) later
unfolding refuse unless
halt-if later e q = rw (e, q)

pub go : {s later v : Stage} → s ≡ passed → v ≡ later → v ≡ and_then s later
unfolding and_then
go e q = rw e q

-- v is the stage's answer, which the code hands on
pub stop : (later : Stage) {s v : Stage} {rule : Rule} {p : ℕ} → v ≡ broken rule p → v ≡ s → v ≡ and_then s later
unfolding and_then
stop later {s} {v} {rule} {p} e q = let f : s ≡ broken rule p = sym q ∙ e in rw f e

pub refuse-found : (rule : Rule) (s : Option ℕ) (later : Stage) → refuse rule s later ≡ passed → s ≡ None
unfolding refuse
refuse-found rule None later e = refl
refuse-found rule (Some p) later e = let z : ◌≡◌ {A = ℕ} 0 1 = cc in absurd (omega arith)

pub refuse-later : (rule : Rule) (s : Option ℕ) (later : Stage) → refuse rule s later ≡ passed → later ≡ passed
unfolding refuse
refuse-later rule None later e = e
refuse-later rule (Some p) later e = let z : ◌≡◌ {A = ℕ} 0 1 = cc in absurd (omega arith)

pub test-passed : (rule : Rule) (b : Bool) (p : ℕ) (later : Stage) → refuse rule (unless b p) later ≡ passed → b ≡ true
unfolding refuse unless
test-passed rule true p later e = refl
test-passed rule false p later e = let z : ◌≡◌ {A = ℕ} 0 1 = cc in absurd (omega arith)

pub and_then-first : (s later : Stage) → and_then s later ≡ passed → s ≡ passed
unfolding and_then
and_then-first (Ok u) later e = refl
and_then-first (Err r) later e = e

pub and_then-later : (s later : Stage) → and_then s later ≡ passed → later ≡ passed
unfolding and_then
and_then-later (Ok u) later e = e
and_then-later (Err r) later e = let z : ◌≡◌ {A = ℕ} 0 1 = cc in absurd (omega arith)

pub numbered : {r s : Stage} → r ≡ s → (r ≡ s) × (stage_numbers r ≡ stage_numbers s)
numbered e = (e, ap stage_numbers e)

-- ---- `?`
pub held : (rule : Rule) (s : Option ℕ) {u : Unit {0}} → refuse rule s passed ≡ Ok u → s ≡ None
unfolding refuse
held rule None e = refl
held rule (Some p) e = let z : ◌≡◌ {A = ℕ} 0 1 = cc in absurd (omega arith)

pub leaves : (rule : Rule) (s : Option ℕ) (later : Stage) {e : Refusal} → refuse rule s passed ≡ Err e → Err e ≡ refuse rule s later
unfolding refuse
leaves rule None later q = let z : ◌≡◌ {A = ℕ} 0 1 = cc in absurd (omega arith)
leaves rule (Some p) later q = sym q

pub passes : {s : Stage} {u : Unit {0}} → s ≡ Ok u → s ≡ passed
passes {u = tt} e = e

pub stays : {s : Stage} (later : Stage) {e : Refusal} → s ≡ Err e → Err e ≡ and_then s later
unfolding and_then
stays later q = rw q refl
