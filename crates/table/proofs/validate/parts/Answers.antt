-- `table::validate::parts` meets its contract: where all nodes and points passed, the counts that stop at two tell refusal 6. Assumes nothing.
use mathlib.Core.Path.{◌≡◌, sym, ap, ◌∙◌}
use native.Mathlib.Omega.{arith}
use Rattle.std.proofs.lemmas.Grind.{common_steps}
use Rattle.words.specs.First.{first_bad, unless}
use Rattle.words.specs.Stages.{refuse}
use Rattle.words.proofs.StageLaws.{held}
use Rattle.table.specs.declared.Sizes.{Sizes}
use Rattle.table.specs.Layout.{sizes_of}
use Rattle.table.specs.Uses.{rule6}
use Rattle.table.specs.Validate.{parts_stage}
use Rattle.table.proofs.UseLaws.{uses_first}
use Rattle.table.proofs.validate.parts.Goals as goal

pub returns : goal.returns
unfolding parts_stage refuse unless
returns c =
    let nodes = c.first_node.ensures.uses (held _ _ (sym c.refuse-3.ensures ∙ c.in_ok-refuse-3.was)) in
    let points = c.first_point.ensures.uses (held _ _ (sym c.refuse-4.ensures ∙ c.in_ok-refuse-4.was)) in
    let uses : c.first_not_one.result ≡ first_bad (rule6 c.args.t.now) (sizes_of c.args.t.now).nodes =
    uses_first 1024 _ _ _ c.requires.few (ap (λ (s : Sizes). s.nodes) c.sizes-s.ensures.value) nodes points c.first_not_one.ensures in
    grind (arith, common_steps)
