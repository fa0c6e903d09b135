-- `iterator::given::Given::entry_into` meets its contract: the entry is taken in at its own variable. Assumes nothing.
use Rattle.std.proofs.Common.{◌≡◌, ℕ, ◌<◌, get_or, refl, sym, ap, ◌∙◌, arith}
use Rattle.std.specs.Prelude.{Option, None, Some}
use Rattle.std.specs.Option.{option_map}
use Rattle.interval.specs.declared.Interval.{Interval}
use Rattle.table.specs.Layout.{sizes_of, points_of}
use Rattle.table.specs.Decode.{point_of}
use Rattle.table.proofs.PassLaws.{passes}
use Rattle.proposer.specs.Widen.{place_in}
use Rattle.proposer.specs.Passes.{entry_into, written_to}
use Rattle.proposer.proofs.SlotLaws.{variable-below}
use Rattle.iterator.specs.declared.given.Given.{Given}
use Rattle.iterator.specs.declared.places.Entries.{Entries}
use Rattle.iterator.specs.Arrays.{one_of, entries_in}
use Rattle.iterator.specs.Given.{table_of, Ready}
use Rattle.iterator.proofs.PlaceLaws.{place_is}
use Rattle.iterator.proofs.IntoLaws.{into-no-entry}
use Rattle.iterator.proofs.VisitLaws.{entry-variable}
use Rattle.iterator.proofs.given.Given.entry_into.Goals as goal

-- the entry x stands at the point q: it is that of the variable written there, which is one of the table's
module _ (g : Given) (e : Entries) (ready : Ready g e) (q : ℕ) (below : q < (sizes_of (table_of g)).points) {x : Interval} (is : get_or e.at q None ≡ Some x) where
  there : place_in (entries_in (table_of g) e) q ≡ Some (one_of x)
  there = place_is one_of _ _ e.moved q below ∙ ap (λ (m : Option Interval). option_map one_of m) is

  variable : get_or g.plan.now.variables q 0 ≡ written_to (point_of (points_of (table_of g)) q)
  variable = entry-variable _ q g.planned ready below there

  few : get_or g.plan.now.variables q 0 < (sizes_of (table_of g)).variables
  few = rw variable (variable-below (table_of g) (passes (table_of g) g.table.now.checked) q below)

pub take_at-requires : goal.take_at-requires
take_at-requires c =
    let small = few c.args.self.now c.args.entries.now c.requires.ready c.args.q c.requires.k_bound.1 c.in-Some.is in
    (omega (arith, c.requires.k_bound.0), omega (arith, small))

pub returns-in-Some : goal.returns-in-Some
unfolding entry_into
returns-in-Some c =
    let g = c.args.self.now in
    let e = c.args.entries.now in
    let q = c.args.q in
    let below = c.requires.k_bound.1 in
    rw (
      c.take_at.ensures _ _ (few g e c.requires.ready q below c.in-Some.is) c.requires.k_bound.0,
      variable g e c.requires.ready q below c.in-Some.is,
      there g e c.requires.ready q below c.in-Some.is,
    ) refl

pub returns-in_default : goal.returns-in_default
returns-in_default c =
    sym (into-no-entry _ _ _ _ _ _ (place_is one_of _ _ c.args.entries.now.moved c.args.q c.requires.k_bound.1
    ∙ ap (λ (m : Option Interval). option_map one_of m) c.in_default.is))
