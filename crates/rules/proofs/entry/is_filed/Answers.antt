-- `rules::entry::is_filed` meets its contract: an interval is filed by the entry that was found or by none. Assumes nothing.
use native.Mathlib.Omega.{arith}
use Rattle.rules.proofs.CheckedLaws.{ready_of}
use Rattle.rules.proofs.EntryLaws.{found_below, none-filed, found-files}
use Rattle.rules.proofs.entry.is_filed.Goals as goal

pub files_at-requires : goal.files_at-requires
files_at-requires c =
    let ready = ready_of c.args.all.now in
    omega (arith, ready.bounded.entries, found_below _ _ ready.order _ _ _ c.find.ensures _ c.in-Some.is)

pub returns-in-Some : goal.returns-in-Some
returns-in-Some c =
    let ready = ready_of c.args.all.now in
    found-files _ _ ready.order _ _ _ c.find.ensures c.args.x.low c.args.x.high _ c.in-Some.is c.files_at.ensures

pub returns-in-None : goal.returns-in-None
returns-in-None c =
    let ready = ready_of c.args.all.now in
    none-filed _ _ ready.order _ _ _ c.find.ensures c.args.x.low c.args.x.high c.in-None.is
