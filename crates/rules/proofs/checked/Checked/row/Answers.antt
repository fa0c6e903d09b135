-- `rules::checked::Checked::row` meets its contract: refusal 9 found the ends of each row in order. Assumes nothing.
use Rattle.rules.proofs.CheckedLaws.{ready_of}
use Rattle.rules.proofs.PartsLaws.{row-whole}
use Rattle.rules.proofs.checked.Checked.row.Goals as goal

pub returns-clause-whole : goal.returns-clause-whole
returns-clause-whole c = row-whole (ready_of c.args.self.now) c.row.result c.args.k c.requires c.row.ensures
