-- `run::start::first_filled` meets its contract: the closure gives the same values at each call. Assumes nothing.
use borrow.Author.Rules.{rules}
use Rattle.run.proofs.StartLaws.{made}
use Rattle.run.proofs.start.first_filled.Goals as goal

pub returns : goal.returns
returns g c =
    made _ _ _ (λ i y q h. (search rules, search rules)) _ _ c.from_fn.ensures.items
