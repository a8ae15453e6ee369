-- `report_bound::highest` meets its contract.
use native.Mathlib.Omega.{arith}
use Rattle.report_bound.proofs.highest.Goals as goal

pub returns : goal.returns
returns c = (rw c.if-resets.false c.least.ensures.0, omega (arith, c.least.ensures.1))
