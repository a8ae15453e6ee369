-- `report_cells::owned_byte` meets its contract.
use Rattle.definition.specs.Report.{owned_byte}
use Rattle.report_cells.proofs.owned_byte.Goals as goal

pub returns-then-o : goal.returns-then-o
unfolding owned_byte
returns-then-o c = rw c.if-o.true

pub returns-else-o : goal.returns-else-o
unfolding owned_byte
returns-else-o c = rw c.if-o.false
