-- `ways::receiver_on` meets its contract.
use Rattle.flows.proofs.Same.{bool-same}
use Rattle.definition.specs.Ways.{receiver_on}
use Rattle.ways.proofs.receiver_on.Goals as goal

pub returns-in-Nothing : goal.returns-in-Nothing
unfolding receiver_on
returns-in-Nothing c = rw c.in-Nothing.is

pub returns-then-when-counted : goal.returns-then-when-counted
unfolding receiver_on
returns-then-when-counted c = rw (c.in-Tests.is, ← bool-same _ _, c.if-when-counted.true)

pub returns-else-when-counted : goal.returns-else-when-counted
unfolding receiver_on
returns-else-when-counted c = rw (c.in-Tests.is, ← bool-same _ _, c.if-when-counted.false)
