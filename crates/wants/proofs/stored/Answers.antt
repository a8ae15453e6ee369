-- `wants::stored` meets its contract.
use Rattle.definition.specs.Wants.{stored}
use Rattle.wants.proofs.stored.Goals as goal

pub returns-in-NoSlot : goal.returns-in-NoSlot
unfolding stored
returns-in-NoSlot c = rw c.in-NoSlot.is

pub returns-in-OneSlot : goal.returns-in-OneSlot
unfolding stored
returns-in-OneSlot c = rw c.in-OneSlot.is

pub returns-in-ManySlots : goal.returns-in-ManySlots
unfolding stored
returns-in-ManySlots c = rw c.in-ManySlots.is
