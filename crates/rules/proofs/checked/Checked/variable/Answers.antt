-- `rules::checked::Checked::variable` meets its contract: the last word of a head, which refusal 9 found in range. Assumes nothing.
use mathlib.Core.Path.{refl, ◌∙◌, ap}
use native.Mathlib.Omega.{arith}
use Rattle.words.specs.Words.{number_of}
use Rattle.words.proofs.Signed.{read_back}
use Rattle.rules.specs.Proposal.{head_of}
use Rattle.rules.proofs.CheckedLaws.{heads_count, ready_of}
use Rattle.rules.proofs.PartsLaws.{head-variable}
use Rattle.rules.proofs.checked.Checked.variable.Goals as goal

pub word_at-requires : goal.word_at-requires
word_at-requires c = omega (arith, heads_count)

pub natural-requires : goal.natural-requires
unfolding head_of
natural-requires c =
    let ready = ready_of c.args.self.now in
    let below = head-variable ready c.args.i c.requires in
    rw (read_back c.word_at.type_inv, c.word_at.ensures, c.args.self.now.proposal.parts.heads) (omega (arith, below, ready.bounded.variables))

pub returns : goal.returns
unfolding head_of
returns c =
    let below = head-variable (ready_of c.args.self.now) c.args.i c.requires in
    rw (c.natural.ensures, read_back c.word_at.type_inv, c.word_at.ensures, c.args.self.now.proposal.parts.heads) (record { value = refl; upper_bound = below })
