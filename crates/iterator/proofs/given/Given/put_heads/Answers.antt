-- Three words a turn.
-- Assumes nothing.
use native.Mathlib.Omega.{arith}
use Rattle.iterator.specs.Given.{table_of, held_by}
use Rattle.iterator.proofs.PutLaws.{concat_none, concat_next, concat_end}
use Rattle.iterator.proofs.WriteLaws.{words_at, heads_put}
use Rattle.iterator.proofs.given.Given.put_heads.Goals as goal

pub loop-c-init : goal.loop-c-init
loop-c-init c = record { so_far = λ s. concat_none (words_at (table_of c.args.self.now) (held_by c.args.self.now) s c.args.heads.now) _ _; next = omega arith }

pub loop-c-preserved : goal.loop-c-preserved
loop-c-preserved c =
    record {
      so_far = λ s. concat_next (words_at (table_of c.args.self.now) (held_by c.args.self.now) s c.args.heads.now) (omega arith) (c.loop-c.invariant.so_far s) (c.put_head-next.ensures.puts s);
      next = omega arith;
    }

pub returns : goal.returns
returns c =
    record {
      puts = λ s e. heads_put (table_of c.args.self.now) (held_by c.args.self.now) s e
          (concat_end (words_at (table_of c.args.self.now) (held_by c.args.self.now) s c.args.heads.now) c.loop-c.auto.c-index-end c.loop-c-test.false (c.loop-c.invariant.so_far s));
      next = omega arith;
    }
