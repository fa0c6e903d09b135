-- A row a turn.
-- Assumes nothing.
use Prim.Native.Nat.{◌+◌, ◌<◌}
use native.Mathlib.Omega.{arith}
use Rattle.table.specs.Layout.{sizes_of}
use Rattle.iterator.specs.Given.{table_of}
use Rattle.iterator.proofs.TableLaws.{small}
use Rattle.iterator.proofs.PutLaws.{concat_none, concat_next, row_room, row_next}
use Rattle.iterator.proofs.WriteLaws.{ends_at}
use Rattle.iterator.proofs.given.Given.put_rows.Goals as goal

pub loop-k-init : goal.loop-k-init
loop-k-init c = record { so_far = concat_none (ends_at c.args.self.now c.args.state.now c.args.side) _ _; next = omega arith }

pub put_row-next-requires : goal.put_row-next-requires
put_row-next-requires c =
    let sizes = small c.args.self.now.table.now in
    let below : c.loop-k.k < (sizes_of (table_of c.args.self.now)).points + (sizes_of (table_of c.args.self.now)).mutexes =
    omega (arith, sizes.points-are, sizes.mutexes-are) in
    (below, omega (arith, row_room _ _ _ _ _ below c.requires))

pub loop-k-preserved : goal.loop-k-preserved
loop-k-preserved c =
    record {
      so_far = concat_next (ends_at c.args.self.now c.args.state.now c.args.side) (omega arith) c.loop-k.invariant.so_far c.put_row-next.ensures.puts;
      next = row_next _ _ _ c.loop-k.invariant.next c.put_row-next.ensures.next;
    }
