-- `report_cells::put_flowless` meets its contract.
use Rattle.le.proofs.Laws.{and_then}
use Rattle.definition.specs.Report.{cell_bytes}
use Rattle.report_cells.proofs.put_flowless.Goals as goal

pub returns : goal.returns
unfolding cell_bytes
returns c =
    rw c.requires.flow_value
    (and_then c.put16-at.ensures
    (and_then c.put_width-at.ensures
    (and_then c.put_no_bodies-at.ensures c.put_no_source.ensures)))
