-- `iterator::given::Given::test` meets its contract: each side is taken in by what narrowing left of the row. Assumes nothing.
use Rattle.std.proofs.Common.{true, false, ap}
use Rattle.analysis.specs.declared.Split.{Split}
use Rattle.iterator.specs.Given.{held_by}
use Rattle.iterator.proofs.LeaveLaws.{test-both, side-clear}
use Rattle.iterator.proofs.given.Given.test.Goals as goal

pub returns : goal.returns
returns c p stands =
    let g = c.args.self.now in
    let left = c.sides-said.ensures in
    rw (
      c.take_if-2.ensures (held_by g p),
      c.take_if.ensures (held_by g p),
      side-clear g.table.now _ c.args.c true c.requires.clear (ap (λ (s : Split). s.yes) left.value) left.yes_after,
      side-clear g.table.now _ c.args.c false c.requires.clear (ap (λ (s : Split). s.no) left.value) left.no_after,
    )
    (test-both _ _ _ _ _ _ stands)
