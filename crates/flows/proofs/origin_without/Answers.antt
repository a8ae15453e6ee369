-- `flows::origin_without` meets its contract.
use borrow.Author.Tests.{eq-eqb, ne_eqb}
use Rattle.flows.proofs.origin_without.Goals as goal

pub returns-then-i-local : goal.returns-then-i-local
returns-then-i-local c = rw (c.in-Some.is, eq-eqb _ _ c.if-i-local.true)

pub returns-else-i-local : goal.returns-else-i-local
returns-else-i-local c = rw (c.in-Some.is, ne_eqb _ _ c.if-i-local.false)
