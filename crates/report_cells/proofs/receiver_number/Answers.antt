-- `report_cells::receiver_number` meets its contract.
use Rattle.definition.specs.Report.{receiver_number}
use Rattle.report_cells.proofs.receiver_number.Goals as goal

pub returns-in-Nothing : goal.returns-in-Nothing
unfolding receiver_number
returns-in-Nothing c = cc

pub returns-in-Tests : goal.returns-in-Tests
unfolding receiver_number
returns-in-Tests c = cc
