-- `rules::proposal::Proposal::read` meets its contract: the layout passed, so that the sizes are within their limits, and the parts are cut where they lie.
-- Assumes nothing.
use mathlib.Core.Path.{sym, ◌∙◌}
use native.Mathlib.Omega.{arith}
use Rattle.words.proofs.StageLaws.{passes}
use Rattle.rules.specs.Proposal.{entries_of, intervals_of, heads_from, lows_from, heads_of, lows_of, highs_of, entries_at}
use Rattle.rules.proofs.ProposalLaws.{few_points}
use Rattle.rules.proofs.ReadyLaws.{few_sizes}
use Rattle.rules.proofs.proposal.Proposal.read.Goals as goal

pub overflow_add-heads : goal.overflow_add-heads
overflow_add-heads c = omega (arith, few_points)

pub overflow_add-lows : goal.overflow_add-lows
overflow_add-lows c = omega (arith, few_points)

pub overflow_add-lows-2 : goal.overflow_add-lows-2
overflow_add-lows-2 c = omega (arith, few_points)

pub invariant_of-result : goal.invariant_of-result
unfolding entries_of intervals_of heads_from lows_from heads_of lows_of highs_of entries_at
invariant_of-result c =
    let sized = passes (sym c.layout.ensures ∙ c.in_ok-layout.was) in
    let count = c.number_at-entries.ensures.value in
    let sizes = c.args.table.cut.sizes in
    let first = c.row_intervals-first.ensures.value in
    record {
      sized = sized;
      few = few_sizes c.args.table _ sized count;
      parts = record {
        entries = count;
        heads = rw (c.part-3.ensures, count, sizes);
        lows = rw (c.part.ensures, count, sizes, first);
        highs = rw (c.part-2.ensures, count, sizes, first);
        entry_lows = rw (c.part-4.ensures, c.part.ensures, count, sizes, first);
        entry_highs = rw (c.part-5.ensures, c.part-2.ensures, count, sizes, first);
      };
    }
