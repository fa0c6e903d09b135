-- `program::respond` meets its contract: where all bytes are there, the text of both parts is that of the input. Assumes nothing.
use mathlib.Core.Path.{◌∙◌}
use Rattle.words.proofs.Bools.{holds}
use Rattle.rangecheck.proofs.ProgramLaws.{text_there}
use Rattle.rangecheck.proofs.program.respond.Goals as goal

pub returns : goal.returns
returns c =
    let there = holds c.all_there.ensures c.if-not-all_there.false in
    c.answer.ensures.text
    ∙ text_there _ there c.length_at-t.ensures.value c.length_at-p.ensures.value c.read_words.ensures.front c.read_words-2.ensures.front
