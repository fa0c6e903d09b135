-- `iterator::places::Rows::take` meets its contract: of both rows only the first intervals count. Assumes nothing.
use Rattle.std.proofs.Common.{refl, sym, ◌∙◌}
use Rattle.proposer.specs.Widen.{trimmed_of}
use Rattle.iterator.proofs.CutLaws.{covers-trimmed, widened-trimmed}
use Rattle.iterator.proofs.PlaceLaws.{takes-new, takes-held, takes-moved}
use Rattle.iterator.proofs.places.Rows.take.Goals as goal
use Rattle.iterator.proofs.places.Rows.take.Goals.{in-None, in-Some+else-covers}

pub returns-then-covers : goal.returns-then-covers
returns-then-covers c k below =
    takes-held _ _ _ _ _ below c.args.n _ _ c.in-Some.is (covers-trimmed c.args.n _ _ ∙ sym c.covers.ensures ∙ c.if-covers.true)

pub returns : goal.returns
returns c k below =
    let n = c.args.n in
    let rows = c.args.self.now in
    elim c.match-self-k.branch [
      | in-None w ↦ rw w.self-is (takes-new (trimmed_of n) k rows.at rows.moved _ below n _ _ w.in-None.is refl)
      | in-Some+else-covers w ↦
          rw w.self-is
          (takes-moved (trimmed_of n) k rows.at rows.moved _ below n _ _ w.in-Some.is (covers-trimmed n _ _ ∙ sym w.covers.ensures ∙ w.if-covers.false)
          (w.widened_row.ensures ∙ sym (widened-trimmed n _ _ _)))
    ]
