-- `cells::Cell::join` meets its contract.
use Rattle.cells.proofs.Same.{cell-same}
use Rattle.cells.proofs.Cell.join.Goals as goal

pub returns : goal.returns
returns c = rw (c.ne.ensures, cell-same, c.with-c.ensures)
