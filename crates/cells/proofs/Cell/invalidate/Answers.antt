-- `cells::Cell::invalidate` meets its contract.
use Rattle.cells.specs.Cell.{invalidated_cell}
use Rattle.cells.proofs.Cell.invalidate.Goals as goal

pub returns : goal.returns
unfolding invalidated_cell
returns c = rw c.invalidate.ensures
