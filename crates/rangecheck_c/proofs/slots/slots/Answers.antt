-- `rangecheck_c::slots::slots` meets its contract: the closure gives the word of each index. Assumes nothing.
use borrow.Author.Rules.{rules}
use Rattle.run.proofs.StartLaws.{made}
use Rattle.rangecheck_c.specs.Slots.{slot_of, slots_of}
use Rattle.rangecheck_c.proofs.slots.slots.Goals as goal

pub returns : goal.returns
unfolding slots_of
returns c = made _ _ (slot_of c.args.s.now) (λ i y q h. (search rules, search rules)) _ _ c.from_fn.ensures.items
