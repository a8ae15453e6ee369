-- `report_cells::put_sized` meets its contract.
use Rattle.definition.specs.Report.{sized_bytes}
use Rattle.le.proofs.Laws.{and_then}
use Rattle.report_cells.proofs.put_sized.Goals as goal

pub returns : goal.returns
unfolding sized_bytes
returns c = and_then c.put8-at.ensures c.put32.ensures
