-- Each `?` leaves with a refusal that comes after those before it, and where none is left the proposal is made.
-- Assumes nothing.
use mathlib.Core.Path.{refl, ap, ◌∙◌}
use Rattle.std.specs.Prelude.{Err}
use Rattle.std.proofs.lemmas.List.{take-replicate}
use Rattle.std.proofs.lemmas.Result.{err_from_is_err_and}
use Rattle.words.specs.Stages.{stage_of}
use Rattle.iterator.proofs.ProposeLaws.{table_refuses, rise_refuses, few_rise, space_refuses, room_for, walks_refuse, proposed}
use Rattle.iterator.proofs.propose.propose.Goals as goal

pub returns-in_err-table : goal.returns-in_err-table
unfolding stage_of
returns-in_err-table c =
    let p = err_from_is_err_and c.from_residual.result c.from_residual.ensures.1 in
    table_refuses refl c.args.thresholds.now c.args.proposal.now (p.1 ∙ ap Err p.2) c.in_err-table.ensures.stage

pub returns-in_err-refuse : goal.returns-in_err-refuse
returns-in_err-refuse c =
    let p = err_from_is_err_and c.from_residual-in_err-refuse.result c.from_residual-in_err-refuse.ensures.1 in
    let t = c.in_ok-table in
    rise_refuses t.ensures.words c.args.thresholds.now c.args.proposal.now t.table.checked c.falls.ensures (p.1 ∙ ap Err p.2) c.in_err-refuse.ensures

pub returns-in_err-refuse-2 : goal.returns-in_err-refuse-2
returns-in_err-refuse-2 c =
    let p = err_from_is_err_and c.from_residual-in_err-refuse-2.result c.from_residual-in_err-refuse-2.ensures.1 in
    let t = c.in_ok-table in
    space_refuses t.ensures.words c.args.thresholds.now c.args.proposal.now t.table.checked c.falls.ensures c.in_ok-refuse.ensures
    c.words_needed-need.ensures c.then_some.ensures (p.1 ∙ ap Err p.2) c.in_err-refuse-2.ensures

pub walk-requires : goal.walk-requires
walk-requires c =
    let count = c.mark_count.ensures in
    rw (c.filled-room.ensures, count.value) (take-replicate _ _ _ (rw count.value at count.upper_bound))

pub returns-in_err-refuse-3 : goal.returns-in_err-refuse-3
returns-in_err-refuse-3 c =
    let p = err_from_is_err_and c.from_residual-in_err-refuse-3.result c.from_residual-in_err-refuse-3.ensures.1 in
    let t = c.in_ok-table in
    walks_refuse t.ensures.words c.args.thresholds.now c.args.proposal.now t.table.checked c.falls.ensures c.in_ok-refuse.ensures
    c.words_needed-need.ensures c.then_some.ensures c.in_ok-refuse-2.ensures c.walk.ensures c.joined.ensures (p.1 ∙ ap Err p.2) c.in_err-refuse-3.ensures

pub made-requires-clause-ts_len_bound : goal.made-requires-clause-ts_len_bound
made-requires-clause-ts_len_bound c =
    let t = c.in_ok-table in
    few_rise t.ensures.words c.args.thresholds.now c.args.proposal.now t.table.checked c.falls.ensures c.in_ok-refuse.ensures
    c.words_needed-need.ensures c.then_some.ensures

pub made-requires-clause-in_bounds : goal.made-requires-clause-in_bounds
made-requires-clause-in_bounds c =
    let t = c.in_ok-table in
    room_for t.ensures.words c.args.thresholds.now c.args.proposal.now t.table.checked c.falls.ensures c.in_ok-refuse.ensures
    c.words_needed-need.ensures c.then_some.ensures c.in_ok-refuse-2.ensures

pub returns : goal.returns
returns c =
    let t = c.in_ok-table in
    proposed t.ensures.words c.args.thresholds.now c.args.proposal.now t.table.checked c.falls.ensures c.in_ok-refuse.ensures
    c.words_needed-need.ensures c.then_some.ensures c.in_ok-refuse-2.ensures c.walk.ensures c.joined.ensures c.in_ok-refuse-3.ensures
    c.made.ensures.value c.made.ensures.out_after
