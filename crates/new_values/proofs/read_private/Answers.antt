-- `new_values::read_private` meets its contract.
use Rattle.definition.specs.Data.{private_cell}
use Rattle.new_values.proofs.read_private.Goals as goal

pub returns-then-within : goal.returns-then-within
unfolding private_cell
returns-then-within c = rw (← c.kind-folded.ensures, ← c.within.ensures, c.if-within.true, c.exact_width.ensures, c.whole_extent-e.ensures)

pub returns : goal.returns
unfolding private_cell
returns c = rw (← c.kind-folded.ensures, ← c.within.ensures, c.if-within.false)
