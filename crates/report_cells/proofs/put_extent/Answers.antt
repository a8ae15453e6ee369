-- `report_cells::put_extent` meets its contract.
use Rattle.definition.specs.Report.{body_bytes}
use Rattle.report_cells.proofs.put_extent.Goals as goal

pub returns-in-Absent : goal.returns-in-Absent
unfolding body_bytes
returns-in-Absent c = rw c.in-Absent.is c.put_range.ensures

pub returns-in-Range : goal.returns-in-Range
unfolding body_bytes
returns-in-Range c = rw c.in-Range.is c.put_range-in-Range.ensures

pub returns-in-Unknown : goal.returns-in-Unknown
unfolding body_bytes
returns-in-Unknown c = rw c.in-Unknown.is c.put_range-in-Unknown.ensures
