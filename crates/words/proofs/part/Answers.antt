-- `words::part` meets its contract: past the end nothing is left, up to the end all that is left, else so many words. Assumes nothing.
use mathlib.Core.Path.{sym}
use Rattle.words.proofs.PartLaws.{part-past, part-rest, part-some}
use Rattle.words.proofs.part.Goals as goal

pub returns-then-ws-from : goal.returns-then-ws-from
returns-then-ws-from c = let a = c.args in sym (part-past a.ws.now a.from a.count c.if-ws-from.true)

pub returns-then-ws-from-2 : goal.returns-then-ws-from-2
returns-then-ws-from-2 c = let a = c.args in sym (part-rest a.ws.now a.from a.count c.if-ws-from-2.true)

pub returns : goal.returns
returns c = let a = c.args in part-some a.ws.now a.from a.count
