-- `wants::meet` meets its contract.
use Rattle.definition.specs.Wants.{meet}
use Rattle.wants.proofs.meet.Goals as goal

pub returns-in-Unproven : goal.returns-in-Unproven
unfolding meet
returns-in-Unproven c = rw c.in-Unproven.is

pub returns-in-Fine : goal.returns-in-Fine
unfolding meet
returns-in-Fine c = rw c.in-Fine.is

pub returns-in-Unproven-other : goal.returns-in-Unproven-other
unfolding meet
returns-in-Unproven-other c = rw (c.in-Guard.is, c.in-Unproven-other.is)

pub returns-in-Fine-other : goal.returns-in-Fine-other
unfolding meet
returns-in-Fine-other c = rw (c.in-Guard.is, c.in-Fine-other.is)

pub returns-in-Guard-other : goal.returns-in-Guard-other
unfolding meet
returns-in-Guard-other c = rw (c.in-Guard.is, c.in-Guard-other.is, c.common.ensures)
