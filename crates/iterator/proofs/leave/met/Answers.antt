-- `iterator::leave::met` meets its contract: each turn meets one interval more, and the first that is empty ends it. Assumes nothing.
use Rattle.std.proofs.Common.{◌≡◌, ℕ, true, Some, refl, sym, ap, ◌∙◌, below_more, arith}
use Rattle.std.specs.Prelude.{Option}
use Rattle.std.specs.Option.{option_map}
use Rattle.std.specs.Int.Signed.{le_z}
use Rattle.words.specs.Words.{word_of}
use Rattle.words.proofs.FillLaws.{fill, fills, filled-whole, length-tabulate}
use Rattle.interval.specs.declared.Interval.{Interval}
use Rattle.analysis.specs.declared.Row.{Row}
use Rattle.proposer.specs.Widen.{trimmed_of}
use Rattle.iterator.proofs.MeetLaws.{low_in, high_in, between_some, between_none, met-none, met-some}
use Rattle.iterator.proofs.leave.met.Goals as goal

pub loop-v-init : goal.loop-v-init
unfolding trimmed_of
loop-v-init c =
    let low = length-tabulate (word_of c.args.row.now.lows) c.args.n in
    let high = length-tabulate (word_of c.args.row.now.highs) c.args.n in
    (fill (omega arith), fill (omega arith), λ k l. absurd (omega arith))

pub loop-v-preserved : goal.loop-v-preserved
loop-v-preserved c =
    let n = c.args.n in
    let v = c.loop-v.v in
    let below = c.loop-v-test.true in
    let low = low_in n c.args.row.now c.args.with.now in
    let high = high_in n c.args.row.now c.args.with.now in
    let some = between_some (low v) (high v) (sym c.met_at.ensures ∙ c.in_ok-met_at.was) in
    rw (c.put.ensures n below) (
      fills c.loop-v.invariant.0 below (ap (λ (x : Interval). x.low) some.1),
      fills c.loop-v.invariant.1 below (ap (λ (x : Interval). x.high) some.1),
      below_more (λ (k : ℕ). le_z (low k) (high k) ≡ true) v c.loop-v.invariant.2 some.0,
    )

pub returns-in_err-met_at : goal.returns-in_err-met_at
returns-in_err-met_at c =
    let n = c.args.n in
    let v = c.loop-v.v in
    let row = c.args.row.now in
    let with = c.args.with.now in
    let empty = between_none (low_in n row with v) (high_in n row with v) (sym c.met_at.ensures ∙ c.in_err-met_at.was) in
    ap (λ (m : Option Row). option_map (trimmed_of n) m) c.from_residual.ensures ∙ sym (met-none n row with v c.loop-v-test.true empty)

pub returns : goal.returns
unfolding trimmed_of
returns c =
    let i = c.loop-v.invariant in
    sym (met-some c.args.n c.args.row.now c.args.with.now (λ v l. i.2 v (omega arith))
    ∙ ap Some (rw (
      filled-whole i.0 c.loop-v-test.false (length-tabulate _ _),
      filled-whole i.1 c.loop-v-test.false (length-tabulate _ _),
    ) refl))
