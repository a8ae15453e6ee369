-- `pausing::closing::told` meets its contract.
use Rattle.pausing.specs.Turned.{alone}
use Rattle.pausing.proofs.closing.Laws.{told-alone}
use Rattle.pausing.proofs.closing.told.Goals as goal

pub returns-in-Err : goal.returns-in-Err
unfolding alone
returns-in-Err c =
    told-alone _ _ _ _ (rw c.in-Err.is at c.deliver.ensures)

pub returns-in-Ok : goal.returns-in-Ok
unfolding alone
returns-in-Ok c =
    told-alone _ _ _ _ (rw c.in-Ok.is at c.deliver.ensures)
