-- `program::answer` meets its contract: an accepted list has room in the alarm words. Assumes nothing.
use mathlib.Core.Path.{sym}
use native.Mathlib.Omega.{arith}
use lib.Seq.{length-take-le}
use Rattle.rangecheck.proofs.AnswerLaws.{few_alarms}
use Rattle.rangecheck.proofs.program.answer.Goals as goal

pub overflow_mul-n : goal.overflow_mul-n
overflow_mul-n c = omega (arith, few_alarms _ _ _ _ c.check.ensures.value c.in-Ok.is)

pub slice_bounds-put_accepted-end : goal.slice_bounds-put_accepted-end
slice_bounds-put_accepted-end c = omega (arith, few_alarms _ _ _ _ c.check.ensures.value c.in-Ok.is)

pub slice_bounds-put_accepted-end-in-Ok : goal.slice_bounds-put_accepted-end-in-Ok
slice_bounds-put_accepted-end-in-Ok c = sym (length-take-le _ _ (omega (arith, few_alarms _ _ _ _ c.check.ensures.value c.in-Ok.is)))

pub put_accepted-requires : goal.put_accepted-requires
put_accepted-requires c = omega (arith, few_alarms _ _ _ _ c.check.ensures.value c.in-Ok.is)
