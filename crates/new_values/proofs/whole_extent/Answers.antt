-- `new_values::whole_extent` meets its contract.
use mathlib.Core.Path.{◌≡◌}
use lib.ListN.{length}
use Rattle.flows.specs.Flow.{absent}
use Rattle.extents.proofs.Four.{four}
use Rattle.definition.specs.Data.{whole_extent}
use borrow.Author.Rules.{rules}
use Rattle.new_values.proofs.whole_extent.Goals as goal

pub returns : goal.returns
unfolding whole_extent
returns c = let l : length c.args.bodies ≡ 4 = search rules in rw (← four absent c.args.bodies l, c.with.ensures, c.with-e-3.ensures, c.with-e-2.ensures, c.with-e.ensures)
