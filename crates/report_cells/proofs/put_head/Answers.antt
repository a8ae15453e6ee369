-- `report_cells::put_head` meets its contract.
use Rattle.le.proofs.Laws.{and_then}
use Rattle.report_cells.proofs.put_head.Goals as goal

pub returns : goal.returns
returns c = and_then c.put8-next.ensures c.put16.ensures
