-- `report_bound::signature_most` meets its contract.
use native.Mathlib.Omega.{arith}
use Rattle.report_bound.proofs.signature_most.Goals as goal

pub returns-then-signed : goal.returns-then-signed
returns-then-signed c = (rw c.if-signed.true, omega arith)
