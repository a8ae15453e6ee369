-- `report_cells::when_byte` meets its contract.
use Rattle.definition.specs.Report.{when_byte}
use Rattle.report_cells.proofs.when_byte.Goals as goal

pub returns-in-Nothing : goal.returns-in-Nothing
unfolding when_byte
returns-in-Nothing c = cc

pub returns-then-when : goal.returns-then-when
unfolding when_byte
returns-then-when c = cc

pub returns-else-when : goal.returns-else-when
unfolding when_byte
returns-else-when c = cc
