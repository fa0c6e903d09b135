-- `words::bytes::decode` meets its contract: the loop fills the room from its front. Assumes nothing.
use mathlib.Core.Path.{ap, ◌∙◌}
use native.Mathlib.Omega.{arith}
use mir.Syntax.{w32}
use mir.Facts.{to_z-of_z}
use Rattle.words.specs.Bytes.{signed_of}
use Rattle.words.proofs.FillLaws.{fill, fills, filled, kept}
use Rattle.words.proofs.bytes.decode.Goals as goal

pub loop-k-init : goal.loop-k-init
loop-k-init c = fill (omega (arith, c.min-k-end.ensures))

pub unsigned-requires : goal.unsigned-requires
unsigned-requires c = omega (arith, c.min-k-end.ensures)

pub bounds-room-k : goal.bounds-room-k
bounds-room-k c =
    let e = kept c.loop-k.invariant in
    omega (arith, c.loop-k-test.true, c.loop-k.invariant.room)

pub loop-k-preserved : goal.loop-k-preserved
loop-k-preserved c =
    fills c.loop-k.invariant c.loop-k-test.true
    (to_z-of_z {w = w32} (record { sfits = c.signed.type_inv }) ∙ c.signed.ensures ∙ ap signed_of c.unsigned.ensures)

pub shape_of-room : goal.shape_of-room
shape_of-room c = kept c.loop-k.invariant

pub returns : goal.returns
returns c =
    let whole = c.min-k-end.ensures in
    rw whole at (filled c.loop-k.invariant c.loop-k-test.false)

pub overflow_mul-k : goal.overflow_mul-k
overflow_mul-k c =
    omega (arith, c.min-k-end.ensures)
