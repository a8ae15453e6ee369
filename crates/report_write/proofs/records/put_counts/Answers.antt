-- `report_write::records::put_counts` meets its contract.
use Rattle.le.proofs.Laws.{and_then}
use Rattle.report_cells.proofs.Laws.{said}
use Rattle.report_write.proofs.records.Writes.{low16}
use Rattle.report_write.proofs.records.put_counts.Goals as goal

pub returns : goal.returns
returns c =
    let a = c.args in
    let p = c.requires.height_bound in
    and_then (said c.put16-at.ensures (low16 a.v.height p.0))
    (and_then (said c.put16-at-2.ensures (low16 a.ch.locals p.1))
    (and_then c.put16-at-3.ensures (said c.put16.ensures (low16 a.guards p.2))))
