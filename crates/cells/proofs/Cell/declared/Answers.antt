-- `cells::Cell::declared` meets its contract.
use Rattle.cells.specs.Cell.{declared}
use Rattle.cells.proofs.Cell.declared.Goals as goal

pub returns : goal.returns
unfolding declared
returns c = rw (c.new.ensures, c.owned_width.ensures, c.declared_width-width.ensures, c.mask-mask.ensures)
