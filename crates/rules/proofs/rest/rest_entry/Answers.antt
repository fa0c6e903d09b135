-- `rules::rest::rest_entry` meets its contract: the ends of the entry, which are in order, are compared as its interval is. Assumes nothing.
use borrow.Author.Rules.{rules}
use mathlib.Core.Path.{◌≡◌}
use mathlib.Core.Bool.{true}
use lib.Signed.{le_z}
use Rattle.rules.specs.Proposal.{entry_low, entry_high}
use Rattle.rules.specs.Rules.{rest_entry}
use Rattle.rules.proofs.DisturbLaws.{taken_is}
use Rattle.rules.proofs.RestLaws.{entry_rests}
use Rattle.rules.proofs.rest.rest_entry.Goals as goal

pub returns : goal.returns
unfolding rest_entry
returns c =
    let p = c.args.all.now.proposal in
    let x = c.span-x.ensures in
    let order : le_z (entry_low p.table.words.now p.words.now c.args.i) (entry_high p.table.words.now p.words.now c.args.i) ≡ true =
    rw (x.low, x.high) at x.order in
    let tested = c.all_below.ensures (entry_rests p.table.words.now p.words.now c.args.i)
    (λ m r below q. rw (taken_is _ _ _ _ order, ← c.head-s.ensures, ← c.variable-v.ensures.value, ← x.low, ← x.high) (search rules)) in
    rw p.table.cut.sizes at tested
