-- `rules::checked::Checked::span` meets its contract: each entry has two ends, which refusal 9 found in order. Assumes nothing.
use mathlib.Core.Path.{refl}
use native.Mathlib.Omega.{arith}
use Rattle.words.proofs.Signed.{read_back}
use Rattle.rules.specs.Proposal.{entry_low, entry_high}
use Rattle.rules.proofs.CheckedLaws.{entry_lows_count, entry_highs_count, ready_of}
use Rattle.rules.proofs.PartsLaws.{entry-ordered}
use Rattle.rules.proofs.checked.Checked.span.Goals as goal

pub word_at-requires : goal.word_at-requires
word_at-requires c = omega (arith, entry_lows_count)

pub word_at-requires-2 : goal.word_at-requires-2
word_at-requires-2 c = omega (arith, entry_highs_count)

pub returns : goal.returns
unfolding entry_low entry_high
returns c =
    let parts = c.args.self.now.proposal.parts in
    rw (read_back {z = c.word_at.result} c.word_at.type_inv, read_back {z = c.word_at-2.result} c.word_at-2.type_inv, c.word_at.ensures, c.word_at-2.ensures, parts.entry_lows, parts.entry_highs)
    (record { low = refl; high = refl; order = entry-ordered (ready_of c.args.self.now) c.args.i c.requires })
