-- `iterator::leave::met` meets its contract: the intervals before v are met, and none of them is empty. Assumes nothing.
use Rattle.std.proofs.Common.{◌≡◌, ℕ, ◌<◌, true}
use Rattle.std.specs.Int.Signed.{le_z}
use Rattle.words.proofs.FillLaws.{Filled}
use Rattle.proposer.specs.Widen.{trimmed_of}
use Rattle.iterator.proofs.MeetLaws.{low_in, high_in}
use Rattle.iterator.proofs.leave.met.Given as goal

abbrev pub invariant-loop-v : goal.invariant-loop-v
invariant-loop-v l =
    let f = l.fn in
    Filled (low_in f.n f.row f.with) (trimmed_of f.n f.row).lows f.n l.v (trimmed_of f.n l.next).lows
    × Filled (high_in f.n f.row f.with) (trimmed_of f.n f.row).highs f.n l.v (trimmed_of f.n l.next).highs
    × ((k : ℕ) → k < l.v → le_z (low_in f.n f.row f.with k) (high_in f.n f.row f.with k) ≡ true)
