-- `report_cells::put_range` meets its contract.
use Rattle.definition.specs.Report.{range_bytes}
use Rattle.le.proofs.Laws.{and_then}
use Rattle.report_cells.proofs.put_range.Goals as goal

pub returns : goal.returns
unfolding range_bytes
returns c = and_then c.put8-at.ensures (and_then c.put32-at.ensures c.put32.ensures)
