-- `flows::largest` meets its contract.
use mathlib.Core.Path.{◌≡◌}
use lib.ListN.{length}
use Rattle.extents.proofs.Four.{four}
use Rattle.flows.specs.Flow.{absent}
use borrow.Author.Rules.{rules}
use Rattle.flows.proofs.largest.Goals as goal

pub returns : goal.returns
returns c =
    let l : length c.args.e ≡ 4 = search rules in
    rw (← four absent c.args.e l, c.larger.ensures, c.larger-m-3.ensures, c.larger-m-2.ensures, c.larger-m.ensures)
