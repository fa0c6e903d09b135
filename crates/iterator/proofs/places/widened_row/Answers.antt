-- `iterator::places::widened_row` meets its contract: each turn moves the ends of one variable more. Assumes nothing.
use Rattle.std.proofs.Common.{◌≡◌, refl, arith}
use Rattle.words.specs.Words.{word_of}
use Rattle.words.proofs.FillLaws.{fill, fills, filled-whole, length-tabulate}
use Rattle.proposer.specs.Widen.{low_to, high_to, trimmed_of, widened_of}
use Rattle.iterator.proofs.places.widened_row.Goals as goal

pub loop-v-init : goal.loop-v-init
unfolding trimmed_of
loop-v-init c =
    let low = length-tabulate (word_of c.args.row.now.lows) c.args.n in
    let high = length-tabulate (word_of c.args.row.now.highs) c.args.n in
    (fill (omega arith), fill (omega arith))

pub loop-v-preserved : goal.loop-v-preserved
loop-v-preserved c =
    let a = c.args in
    let v = c.loop-v.v in
    let moved = c.widened.ensures in
    let low : c.widened.result.low ≡ low_to a.ts.now (word_of a.row.now.lows v) (word_of a.more.now.lows v) =
    rw (moved, c.ends.ensures, c.ends-in-loop-v.ensures) refl in
    let high : c.widened.result.high ≡ high_to a.ts.now (word_of a.row.now.highs v) (word_of a.more.now.highs v) =
    rw (moved, c.ends.ensures, c.ends-in-loop-v.ensures) refl in
    rw (c.put.ensures a.n c.loop-v-test.true)
    (fills c.loop-v.invariant.0 c.loop-v-test.true low, fills c.loop-v.invariant.1 c.loop-v-test.true high)

pub returns : goal.returns
unfolding trimmed_of widened_of
returns c =
    rw (
      filled-whole c.loop-v.invariant.0 c.loop-v-test.false (length-tabulate _ _),
      filled-whole c.loop-v.invariant.1 c.loop-v-test.false (length-tabulate _ _),
    ) refl
