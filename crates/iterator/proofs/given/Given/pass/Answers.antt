-- `iterator::given::Given::pass` meets its contract: each part of a pass keeps entries where they can stand. Assumes nothing.
use Rattle.std.proofs.Common.{◌≡◌, sym, ap, subst, ◌∙◌}
use Rattle.table.specs.Layout.{sizes_of}
use Rattle.proposer.specs.Fold.{fold_below}
use Rattle.proposer.specs.Passes.{State, begun, visit, rest_visit, pass_of}
use Rattle.iterator.specs.Arrays.{places_by}
use Rattle.iterator.specs.Plan.{Filed}
use Rattle.iterator.specs.Given.{table_of, thresholds_of, held_by, state_by}
use Rattle.iterator.proofs.FiledLaws.{visits-filed, pass-filed}
use Rattle.iterator.proofs.given.Given.pass.Goals as goal

pub visits-requires : goal.visits-requires
unfolding places_by
visits-requires c = record { elsewhere = c.requires.elsewhere }

pub rest_visits-requires : goal.rest_visits-requires
unfolding places_by
rest_visits-requires c =
    let g = c.args.self.now in
    subst (λ (s : State). Filed (table_of g) (held_by g) s.entries) (sym c.visits.ensures)
    (visits-filed (table_of g) (thresholds_of g) (held_by g) (sizes_of (table_of g)).points (begun (state_by g c.args.state.now))
    (record { elsewhere = c.requires.elsewhere }))

pub returns : goal.returns
unfolding pass_of places_by
returns c =
    let g = c.args.self.now in
    let t = table_of g in
    let ts = thresholds_of g in
    let h = held_by g in
    let before = state_by g c.args.state.now in
    let visited : state_by g c.visits.new.state ≡ fold_below (visit t ts h) (begun before) (sizes_of t).points = c.visits.ensures in
    let passed : state_by g c.rest_visits.new.state ≡ pass_of t ts h before =
    c.rest_visits.ensures ∙ ap (λ (s : State). fold_below (rest_visit t ts h) s (sizes_of t).mutexes) visited in
    record { state_after = passed; ready = subst (λ (s : State). Filed t h s.entries) (sym passed) (pass-filed t ts h before c.requires) }
