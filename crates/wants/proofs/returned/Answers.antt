-- `wants::returned` meets its contract.
use Rattle.definition.specs.Wants.{returned_want}
use Rattle.wants.proofs.returned.Goals as goal

pub returns-then-entry : goal.returns-then-entry
unfolding returned_want
returns-then-entry c = rw c.if-entry.true

pub returns : goal.returns
unfolding returned_want
returns c = rw c.if-entry.false c.nothing.ensures
