-- `report_write::records::put_place` meets its contract.
use Rattle.le.proofs.Laws.{and_then}
use Rattle.report_cells.proofs.Laws.{said}
use Rattle.report_write.proofs.records.Writes.{low16}
use Rattle.report_write.proofs.records.put_place.Goals as goal

pub returns : goal.returns
returns c =
    let a = c.args in
    let p = c.requires.c_bound in
    and_then (said c.put16-at.ensures (low16 a.c p.0)) (said c.put16.ensures (low16 a.i p.1))
