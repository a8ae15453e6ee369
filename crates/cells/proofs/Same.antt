-- What the derived `==` of cells answers.
use mathlib.Core.Path.{◌≡◌}
use mathlib.Core.Bool.{◌&&◌}
use Rattle.masks.specs.Mask.{same}
use Rattle.widths.proofs.Same.{width-same}
use Rattle.flows.proofs.Same.{flow-same}
use Rattle.cells.specs.declared.Cell.{Cell}
use Rattle.cells.specs.Cell.{same_cell}
use Rattle.cells.specs.contracts.CellPartialEq.TheImpl as cell

pub cell-same : (x y : Cell) → cell.ghosts.eq x y ≡ same_cell x y
unfolding same_cell
cell-same x y = λ i. same x.mask y.mask && (width-same x.width y.width i && flow-same x.flow y.flow i)
