-- `new_values::field_cell` meets its contract.
use borrow.Author.Tests.{ne_eqb}
use Rattle.definition.specs.Outputs.{field_cell}
use Rattle.new_values.proofs.field_cell.Goals as goal

pub returns-in-0 : goal.returns-in-0
unfolding field_cell
returns-in-0 c = rw (c.in-0.is, c.made.ensures, c.scalar.ensures)

pub returns-in-1 : goal.returns-in-1
unfolding field_cell
returns-in-1 c = rw (c.in-1.is, c.fresh.ensures, c.body.ensures)

pub returns-in_default : goal.returns-in_default
unfolding field_cell
returns-in_default c = rw (ne_eqb _ _ c.in_default.in_default-own.rest.0.1, ne_eqb _ _ c.in_default.in_default-own.rest.1) c.made-in_default.ensures
