-- `report_bound::most_guards` meets its contract.
use native.Mathlib.Omega.{arith}
use Rattle.report_bound.proofs.most_guards.Goals as goal

pub returns-in-Both : goal.returns-in-Both
returns-in-Both c = (rw c.in-Both.is c.least.ensures.0, omega (arith, c.least.ensures.2))

pub returns-in-Returned : goal.returns-in-Returned
returns-in-Returned c = (rw c.in-Returned.is c.number.ensures.0, omega (arith, c.number.ensures.1))

pub returns-in-Stored : goal.returns-in-Stored
returns-in-Stored c = (rw c.in-Stored.is c.written_guards.ensures.0, c.written_guards.ensures.1)
