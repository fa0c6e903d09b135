-- `iterator::start::begin` meets its contract: the places before k are as they begin, and no entry is there. Assumes nothing.
use Rattle.std.proofs.Common.{◌≡◌, false, length}
use Rattle.iterator.specs.Arrays.{blank_state}
use Rattle.iterator.proofs.StartLaws.{Begun}
use Rattle.iterator.proofs.start.begin.Given as goal

abbrev pub invariant-loop-k : goal.invariant-loop-k
invariant-loop-k l =
    let rows = l.state.rows in
    Begun l.t.words.now l.k rows.at × (length rows.at ≡ 264) × (rows.moved ≡ false) × (l.state.entries ≡ blank_state.entries)
