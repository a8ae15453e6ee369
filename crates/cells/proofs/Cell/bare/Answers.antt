-- `cells::Cell::bare` meets its contract.
use Rattle.cells.specs.Cell.{bare_cell}
use Rattle.cells.proofs.Cell.bare.Goals as goal

pub returns : goal.returns
unfolding bare_cell
returns c = rw c.bare.ensures
