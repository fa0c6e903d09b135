-- `words::number_at` meets its contract: the number of the word that was read. Assumes nothing.
use mathlib.Core.Path.{ap, ◌∙◌}
use Rattle.words.specs.Words.{number_of}
use Rattle.words.proofs.Signed.{read_back}
use Rattle.words.proofs.number_at.Goals as goal

pub returns : goal.returns
returns c =
    let w = c.word in
    record { value = c.number.ensures.value ∙ ap number_of (read_back w.type_inv ∙ w.ensures); upper_bound = c.number.ensures.upper_bound }
