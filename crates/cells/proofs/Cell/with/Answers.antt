-- `cells::Cell::with` meets its contract.
use Rattle.cells.specs.Cell.{join_cell}
use Rattle.cells.proofs.Cell.with.Goals as goal

pub returns : goal.returns
unfolding join_cell
returns c = rw (c.with.ensures, c.join.ensures, c.union.ensures)
