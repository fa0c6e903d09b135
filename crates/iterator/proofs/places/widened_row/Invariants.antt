-- `iterator::places::widened_row` meets its contract: the ends of the variables before v have moved. Assumes nothing.
use Rattle.words.specs.Words.{word_of}
use Rattle.words.proofs.FillLaws.{Filled}
use Rattle.proposer.specs.Widen.{low_to, high_to, trimmed_of}
use Rattle.iterator.proofs.places.widened_row.Given as goal

abbrev pub invariant-loop-v : goal.invariant-loop-v
invariant-loop-v l =
    let f = l.fn in
    Filled (λ v. low_to f.ts (word_of f.row.lows v) (word_of f.more.lows v)) (trimmed_of f.n f.row).lows f.n l.v (trimmed_of f.n l.next).lows
    × Filled (λ v. high_to f.ts (word_of f.row.highs v) (word_of f.more.highs v)) (trimmed_of f.n f.row).highs f.n l.v (trimmed_of f.n l.next).highs
