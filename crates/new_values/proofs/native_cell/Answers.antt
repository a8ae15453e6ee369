-- `new_values::native_cell` meets its contract.
use Rattle.new_values.specs.Making.{native_by}
use Rattle.new_values.proofs.native_cell.Goals as goal

pub returns : goal.returns
unfolding native_by
returns c = rw (c.fresh.ensures, c.owned_if.ensures, c.declared_width.ensures, c.mask.ensures)
