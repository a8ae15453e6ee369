-- `pausing::closing::told_indexed` meets its contract.
use Rattle.pausing.specs.Turned.{beside}
use Rattle.pausing.proofs.closing.Laws.{told-beside}
use Rattle.pausing.proofs.closing.told_indexed.Goals as goal

pub returns-in-Err : goal.returns-in-Err
unfolding beside
returns-in-Err c =
    told-beside _ _ _ _ _ _ (rw c.in-Err.is at c.deliver_indexed.ensures)

pub returns-in-Ok : goal.returns-in-Ok
unfolding beside
returns-in-Ok c =
    told-beside _ _ _ _ _ _ (rw c.in-Ok.is at c.deliver_indexed.ensures)
