-- `report_cells::origin_number` meets its contract.
use Rattle.definition.specs.Report.{origin_number}
use Rattle.report_cells.proofs.origin_number.Goals as goal

pub returns-in-None : goal.returns-in-None
unfolding origin_number
returns-in-None c = cc

pub returns-in-Some : goal.returns-in-Some
unfolding origin_number
returns-in-Some c = cc
