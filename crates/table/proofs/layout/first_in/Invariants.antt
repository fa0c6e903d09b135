-- `table::layout::first_in`: the sum is the first point of task k, and at most 4294967295 for each share before k. Assumes nothing.
use Prim.Native.Nat.{◌*◌, ◌≤◌}
use mathlib.Core.Path.{◌≡◌}
use Rattle.table.specs.Layout.{first_in}
use Rattle.table.proofs.layout.first_in.Given as goal

abbrev pub invariant-loop-k : goal.invariant-loop-k
invariant-loop-k l = record { sum : l.first ≡ first_in l.shares l.k; most : l.first ≤ l.k * 4294967295 }
