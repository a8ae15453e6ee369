-- `report_bound::height_after` meets its contract.
use native.Mathlib.Omega.{arith}
use Rattle.report_bound.proofs.height_after.Goals as goal

pub returns-then-straight : goal.returns-then-straight
returns-then-straight c = (rw (c.if-straight.true, ← c.left.ensures.0) c.least.ensures.0, omega (arith, c.least.ensures.1))
