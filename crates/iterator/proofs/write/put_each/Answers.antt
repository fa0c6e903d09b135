-- The closure's word is that of the function.
-- Assumes nothing.
use mathlib.Core.Path.{◌∙◌}
use Rattle.words.proofs.Signed.{read_back}
use Rattle.iterator.proofs.PutLaws.{each_next, each_end}
use Rattle.iterator.proofs.write.put_each.Goals as goal

pub loop-k-preserved : goal.loop-k-preserved
loop-k-preserved g c = λ f e.
    each_next f _ _ _ (c.loop-k.invariant f e) c.requires.room c.loop-k-test.true (read_back c.word.type_inv ∙ e _ _ c.loop-k-test.true c.word.ensures)

pub returns-clause-puts : goal.returns-clause-puts
returns-clause-puts g c = λ f e. each_end f _ _ _ (c.loop-k.invariant f e) c.loop-k.auto.k-end c.loop-k-test.false
