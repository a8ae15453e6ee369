-- `report_write::put_slot` meets its contract.
use Rattle.le.proofs.Laws.{and_then}
use Rattle.report_cells.proofs.Laws.{said}
use Rattle.report_write.proofs.records.Writes.{slot-bytes}
use Rattle.report_write.proofs.put_slot.Goals as goal

pub returns : goal.returns
returns c =
    let a = c.args in
    said (and_then c.put_head-at.ensures c.put_cell.ensures)
    (slot-bytes a.ws.now a.t.chunks a.slot c.slot_at.result c.load-c.result c.slot_at.ensures c.load-c.ensures)
