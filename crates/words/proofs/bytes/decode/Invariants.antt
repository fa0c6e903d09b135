-- `words::bytes::decode` meets its contract: the loop fills the room from its front. Assumes nothing.
use Prim.Native.Nat.{◌-◌}
use Rattle.words.specs.Bytes.{word_in}
use Rattle.words.proofs.FillLaws.{Filled}
use Rattle.words.proofs.bytes.decode.Given as goal

abbrev pub invariant-loop-k : goal.invariant-loop-k
invariant-loop-k l = Filled (word_in l.bytes) l.initial.room l.k-end l.k l.room

abbrev pub decreases-loop-k : goal.decreases-loop-k
decreases-loop-k l = l.k-end - l.k
