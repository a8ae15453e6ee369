-- `cells::Cell::narrow_enum` meets its contract.
use Rattle.cells.specs.Cell.{narrow_enum}
use Rattle.cells.proofs.Cell.narrow_enum.Goals as goal

pub returns : goal.returns
unfolding narrow_enum
returns c = rw c.exact_width.ensures
