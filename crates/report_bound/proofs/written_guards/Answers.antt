-- `report_bound::written_guards` meets its contract.
use native.Mathlib.Omega.{arith}
use Rattle.report_bound.proofs.written_guards.Goals as goal

pub returns-in-ManySlots : goal.returns-in-ManySlots
returns-in-ManySlots c = (rw c.in-ManySlots.is c.least.ensures.0, omega (arith, c.least.ensures.2))
