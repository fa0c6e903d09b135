-- `iterator::places::Entries::take` meets its contract: an entry is a row of one interval. Assumes nothing.
use Rattle.std.proofs.Common.{refl, sym, ap, ◌∙◌}
use Rattle.words.specs.First.{all_below}
use Rattle.words.specs.Tabulate.{tabulate}
use Rattle.proposer.specs.Widen.{covers_of, trimmed_of, widened_of}
use Rattle.iterator.specs.Arrays.{one_of}
use Rattle.iterator.proofs.PlaceLaws.{takes-new, takes-held, takes-moved}
use Rattle.iterator.proofs.places.Entries.take.Goals as goal
use Rattle.iterator.proofs.places.Entries.take.Goals.{in-None, in-Some+else-holds}

pub returns-then-holds : goal.returns-then-holds
unfolding covers_of all_below
returns-then-holds c k below = takes-held _ _ _ _ _ below 1 _ _ c.in-Some.is (sym c.holds.ensures ∙ c.if-holds.true)

pub returns : goal.returns
unfolding covers_of all_below trimmed_of widened_of tabulate
returns c k below =
    elim c.match-self-q.branch [
      | in-None w ↦ rw w.self-is (takes-new one_of k c.args.self.now.at c.args.self.now.moved _ below 1 _ _ w.in-None.is refl)
      | in-Some+else-holds w ↦
          rw w.self-is
          (takes-moved one_of k c.args.self.now.at c.args.self.now.moved _ below 1 _ _ w.in-Some.is (sym w.holds.ensures ∙ w.if-holds.false)
          (ap one_of w.widened.ensures))
    ]
