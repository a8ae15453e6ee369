-- `report_cells::put_width` meets its contract.
use Rattle.definition.specs.Report.{width_bytes}
use Rattle.report_cells.proofs.put_width.Goals as goal

pub returns-in-Unknown : goal.returns-in-Unknown
unfolding width_bytes
returns-in-Unknown c = rw c.in-Unknown.is c.put_sized.ensures

pub returns-in-Scalar : goal.returns-in-Scalar
unfolding width_bytes
returns-in-Scalar c = rw c.in-Scalar.is c.put_sized-in-Scalar.ensures

pub returns-in-Body : goal.returns-in-Body
unfolding width_bytes
returns-in-Body c = rw c.in-Body.is c.put_sized-in-Body.ensures
