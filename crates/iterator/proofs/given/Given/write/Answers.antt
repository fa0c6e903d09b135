-- The pieces follow one another.
-- Assumes nothing.
use mathlib.Core.Path.{◌∙◌}
use native.Mathlib.Nat.{zero-add}
use native.Mathlib.Omega.{arith}
use Rattle.proposer.specs.Propose.{words_of}
use Rattle.iterator.specs.Given.{table_of, held_by, state_by}
use Rattle.iterator.specs.Write.{Puts, ends_of}
use Rattle.iterator.proofs.PutLaws.{puts_append, puts_front}
use Rattle.iterator.proofs.WriteLaws.{collected, few_collected}
use Rattle.iterator.proofs.given.Given.write.Goals as goal

pub returns : goal.returns
unfolding words_of ends_of
returns c =
    let heads = collected c.args.self.now c.args.state.now c.collect-count.ensures in
    let few = few_collected c.args.self.now c.args.state.now c.collect-count.ensures in
    let all : let g = c.args.self.now in let s = c.args.state.now in
    Puts c.args.out.now 0 (words_of (table_of g) (held_by g) (state_by g s)) c.put_ends.new.out c.put_ends.result =
    puts_append (omega arith) (c.put_sizes-held.ensures.puts _ heads)
    (puts_append (omega arith) c.put_held-head.ensures.puts
    (puts_append (omega arith) (c.put_heads-low.ensures.puts _ heads)
    (puts_append (omega arith) c.put_ends-high.ensures.puts c.put_ends.ensures.puts))) in
    record { value = all.next-is ∙ zero-add _; out_after = puts_front all }
