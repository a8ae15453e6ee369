-- `flows::Predicate::without` meets its contract.
use borrow.Author.Tests.{eq-eqb, ne_eqb}
use Rattle.flows.proofs.Predicate.without.Goals as goal

pub returns-then-receiver-local : goal.returns-then-receiver-local
returns-then-receiver-local c = rw (c.in-Tests.is, eq-eqb _ _ c.if-receiver-local.true)

pub returns-else-receiver-local : goal.returns-else-receiver-local
returns-else-receiver-local c = rw (c.in-Tests.is, ne_eqb _ _ c.if-receiver-local.false)
