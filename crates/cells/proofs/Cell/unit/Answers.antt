-- `cells::Cell::unit` meets its contract.
use Rattle.cells.specs.Cell.{unit_cell}
use Rattle.cells.proofs.Cell.unit.Goals as goal

pub returns : goal.returns
unfolding unit_cell
returns c = rw c.none.ensures
