-- `report_write::put_inspection` meets its contract.
use Rattle.le.specs.Le.{le16}
use Rattle.le.proofs.Laws.{and_then}
use Rattle.definition.specs.Report.{field, inspection_bytes}
use Rattle.report_write.proofs.put_inspection.Goals as goal

pub returns : goal.returns
unfolding inspection_bytes field le16
returns c = and_then c.put_head-at.ensures c.put_place.ensures
