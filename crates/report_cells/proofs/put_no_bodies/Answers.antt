-- `report_cells::put_no_bodies` meets its contract.
use Rattle.le.proofs.Laws.{and_then}
use Rattle.flows.specs.Flow.{absent, no_flow}
use Rattle.definition.specs.Report.{body_bytes}
use Rattle.report_cells.proofs.Laws.{said, four}
use mathlib.Core.Path.{refl}
use Rattle.report_cells.proofs.put_no_bodies.Goals as goal

pub returns : goal.returns
unfolding no_flow body_bytes
returns c =
    said
    (and_then c.put_range-at.ensures
    (and_then c.put_range-at-2.ensures
    (and_then c.put_range-at-3.ensures c.put_range.ensures)))
    (four no_flow.bodies absent refl)
