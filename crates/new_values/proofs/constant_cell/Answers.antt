-- `new_values::constant_cell` meets its contract.
use borrow.Author.Tests.{ne_eqb}
use Rattle.definition.specs.Outputs.{constant_cell}
use Rattle.new_values.proofs.constant_cell.Goals as goal

pub returns-then-i-eq0 : goal.returns-then-i-eq0
unfolding constant_cell
returns-then-i-eq0 c = rw (c.if-i-eq0.true, c.made.ensures, c.constant-mask.ensures)

pub returns : goal.returns
unfolding constant_cell
returns c = rw (ne_eqb _ _ c.if-i-eq0.false, c.fresh.ensures, c.constant-mask.ensures)
