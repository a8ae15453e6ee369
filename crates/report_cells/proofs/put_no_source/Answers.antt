-- `report_cells::put_no_source` meets its contract.
use Rattle.le.proofs.Laws.{and_then}
use Rattle.flows.specs.Flow.{no_flow}
use Rattle.definition.specs.Report.{owned_byte, origin_number, receiver_number, when_byte, source_bytes}
use Rattle.report_cells.proofs.put_no_source.Goals as goal

pub returns : goal.returns
unfolding no_flow owned_byte origin_number receiver_number when_byte source_bytes
returns c =
    and_then c.put8-at.ensures
    (and_then c.put16-at.ensures
    (and_then c.put16-at-2.ensures c.put8.ensures))
