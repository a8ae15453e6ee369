-- `packing::body_spans` meets its contract.
use mathlib.Core.Path.{◌≡◌}
use lib.ListN.{length}
use Rattle.extents.proofs.Four.{four}
use Rattle.flows.specs.Flow.{absent}
use borrow.Author.Rules.{rules}
use Rattle.packing.proofs.body_spans.Goals as goal

pub returns : goal.returns
returns c =
    let l : length c.args.bodies ≡ 4 = search rules in
    rw (← four absent c.args.bodies l, c.body_span.ensures, c.has-4.ensures, c.body_span-s-3.ensures, c.has-3.ensures, c.body_span-s-2.ensures, c.has-2.ensures, c.body_span-s.ensures, c.has.ensures)
