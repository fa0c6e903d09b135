-- `iterator::start::begin` meets its contract: a place that begins has the starting values. Assumes nothing.
use Rattle.std.proofs.Common.{◌≡◌, refl, ◌∙◌, ◌+◌, ◌<◌, length, arith}
use Rattle.std.proofs.lemmas.List.{length-set, length-replicate}
use Rattle.std.specs.Prelude.{Option, None}
use Rattle.analysis.specs.declared.Row.{Row}
use Rattle.words.specs.Tabulate.{tabulate}
use Rattle.table.specs.Layout.{sizes_of}
use Rattle.iterator.proofs.TableLaws.{sizes, places_few}
use Rattle.iterator.proofs.StartLaws.{starts-if, begun_more, begun_whole, entries_start}
use Rattle.iterator.proofs.start.begin.Goals as goal

pub loop-k-init : goal.loop-k-init
unfolding tabulate
loop-k-init c = rw c.requires (refl, length-replicate {A = Option Row} 264 None, refl, refl)

pub loop-k-preserved : goal.loop-k-preserved
loop-k-preserved c =
    let t = c.args.t.now in
    let rows = c.loop-k.state.rows in
    let inv = c.loop-k.invariant in
    let below : c.loop-k.k < length rows.at = omega (arith, places_few t) in (
      begun_more t.words.now c.loop-k.k rows.at c.then_some.result inv.0 below
          (rw (c.then_some.ensures, c.own-start.ensures, c.begins.ensures, t.cut.starts) (starts-if t.words.now t.checked _)),
      length-set rows.at c.loop-k.k c.then_some.result ∙ inv.1,
      inv.2,
      inv.3,
    )

pub returns : goal.returns
returns c =
    let t = c.args.t.now in
    let inv = c.loop-k.invariant in
    let end : c.loop-k.k ≡ (sizes_of t.words.now).points + (sizes_of t.words.now).mutexes = grind (arith, sizes) in
    rw (begun_whole t.words.now _ _ _ inv.0 end inv.2, inv.3, entries_start t.words.now t.checked) refl
