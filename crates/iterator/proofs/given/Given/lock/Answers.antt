-- `iterator::given::Given::lock` meets its contract: there is an outcome where the mutex isn't held and its rest row meets the row. Assumes nothing.
use Rattle.std.proofs.Common.{sym, ap, ◌∙◌}
use Rattle.std.specs.Prelude.{Option}
use Rattle.std.specs.Option.{option_map}
use Rattle.table.specs.Layout.{sizes_of}
use Rattle.analysis.specs.declared.Row.{Row}
use Rattle.proposer.specs.Widen.{trimmed_of}
use Rattle.iterator.specs.Given.{table_of}
use Rattle.iterator.proofs.MeetLaws.{rest-met}
use Rattle.iterator.proofs.LeaveLaws.{lock-held, lock-apart, lock-met}
use Rattle.iterator.proofs.given.Given.lock.Goals as goal

pub returns-then-has : goal.returns-then-has
returns-then-has c = lock-held _ _ _ _ _ _ c.requires.stands (sym c.has.ensures ∙ c.if-has.true)

pub returns-in-Some : goal.returns-in-Some
returns-in-Some c =
    let met = rest-met c.args.self.now c.args.state.now.rows _ _ c.met.result c.args.m c.requires.bounds.1 c.row_or_zeros-rest.ensures c.met.ensures in
    rw c.take.ensures
    (lock-met _ _ _ _ _ _ c.requires.stands (sym c.has.ensures ∙ c.if-has.false)
    (met ∙ ap (λ (m : Option Row). option_map (trimmed_of (sizes_of (table_of c.args.self.now)).variables) m) c.in-Some.is))

pub returns-in_default : goal.returns-in_default
returns-in_default c =
    let met = rest-met c.args.self.now c.args.state.now.rows _ _ c.met.result c.args.m c.requires.bounds.1 c.row_or_zeros-rest.ensures c.met.ensures in
    lock-apart _ _ _ _ _ _ c.requires.stands (sym c.has.ensures ∙ c.if-has.false)
    (met ∙ ap (λ (m : Option Row). option_map (trimmed_of (sizes_of (table_of c.args.self.now)).variables) m) c.in_default.is)
