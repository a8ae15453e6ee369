-- `cells::Cell::made` meets its contract.
use Rattle.cells.specs.Cell.{made}
use Rattle.cells.proofs.Cell.made.Goals as goal

pub returns : goal.returns
unfolding made
returns c = rw (c.new.ensures, c.scalar_width-width.ensures)
