-- `report_cells::put_cell` meets its contract.
use Rattle.le.proofs.Laws.{and_then}
use Rattle.definition.specs.Report.{cell_bytes}
use Rattle.report_cells.proofs.put_cell.Goals as goal

pub returns : goal.returns
unfolding cell_bytes
returns c =
    and_then c.put16-at.ensures
    (and_then c.put_width-at.ensures
    (and_then c.put_bodies-at.ensures c.put_source.ensures))
