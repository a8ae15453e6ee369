-- `extents::bodies::join_bodies` meets its contract.
use mathlib.Core.Path.{◌≡◌}
use lib.ListN.{length}
use Rattle.extents.specs.declared.BodyExtent.TheVariants.{Absent}
use Rattle.extents.specs.declared.Extent.{Extent}
use Rattle.extents.proofs.Four.{four}
use borrow.Author.Rules.{rules}
use Rattle.extents.proofs.bodies.join_bodies.Goals as goal

pub returns : goal.returns
returns c =
    let a = c.args.a in
    let b = c.args.b in
    let la : length a ≡ 4 = search rules in
    let lb : length b ≡ 4 = search rules in
    let d : Extent = record { body = Absent } in
    rw (← four d a la, ← four d b lb, c.with-4.ensures, c.with-3.ensures, c.with-2.ensures, c.with.ensures)
