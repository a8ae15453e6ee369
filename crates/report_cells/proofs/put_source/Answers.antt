-- `report_cells::put_source` meets its contract.
use Rattle.le.proofs.Laws.{and_then}
use Rattle.definition.specs.Report.{source_bytes}
use Rattle.report_cells.proofs.put_source.Goals as goal

pub returns : goal.returns
unfolding source_bytes
returns c =
    rw (← c.owned_byte.ensures, ← c.origin_number.ensures, ← c.receiver_number.ensures, ← c.when_byte.ensures)
    (and_then c.put8-at.ensures (and_then c.put16-at.ensures (and_then c.put16-at-2.ensures c.put8.ensures)))
