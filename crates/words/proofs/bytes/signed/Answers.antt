-- `words::bytes::signed` meets its contract: below 2^31 the number itself, else its distance from -1. Assumes nothing.
use Prim.Native.Nat.{◌-◌, ◌<◌}
use mathlib.Core.Path.{◌∙◌}
use native.Mathlib.Omega.{arith}
use mir.Syntax.{w32}
use mir.ValLaws.{to_z_pos}
use Rattle.words.proofs.BelowLaws.{signed_low, signed_high, minus-fits, less-one-fits, less-one-is}
use Rattle.words.proofs.bytes.signed.Goals as goal

pub returns-then-n-lt2147483648 : goal.returns-then-n-lt2147483648
returns-then-n-lt2147483648 c = to_z_pos w32 _ c.if-n-lt2147483648.true ∙ signed_low _ c.if-n-lt2147483648.true

pub overflow_sub-result : goal.overflow_sub-result
overflow_sub-result c =
    let few : 4294967295 - c.args.n < 2147483648 =
    omega (arith, c.if-n-lt2147483648.false) in
    minus-fits _ few

pub overflow_sub-result-2 : goal.overflow_sub-result-2
overflow_sub-result-2 c =
    let few : 4294967295 - c.args.n < 2147483648 =
    omega (arith, c.if-n-lt2147483648.false) in
    less-one-fits _ few

pub returns : goal.returns
returns c =
    let few : 4294967295 - c.args.n < 2147483648 =
    omega (arith, c.if-n-lt2147483648.false) in
    less-one-is _ few ∙ signed_high _ c.if-n-lt2147483648.false
