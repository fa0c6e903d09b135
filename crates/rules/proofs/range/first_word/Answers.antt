-- `rules::range::first_word` meets its contract: a held word or a word of a head fails, or the search goes on behind them. Assumes nothing.
use Rattle.rules.proofs.RangeLaws.{held-first, head-first, end-first}
use Rattle.rules.proofs.range.first_word.Goals as goal

pub returns-in-Some : goal.returns-in-Some
returns-in-Some c = held-first _ _ c.first_held.ensures c.in-Some.is

pub returns-in-Some-first_head : goal.returns-in-Some-first_head
returns-in-Some-first_head c = head-first _ _ c.first_held.ensures c.in_default.is c.first_head.ensures c.in-Some-first_head.is

pub returns : goal.returns
returns c = end-first _ _ c.first_held.ensures c.in_default.is c.first_head.ensures c.in_default-first_head.is c.first_end.ensures
