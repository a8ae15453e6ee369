-- `row_join::places::narrowed_with` meets its contract, by the two cases of its test.
use Rattle.definition.specs.Ways.{narrow_stack}
use Rattle.row_join.proofs.places.narrowed_with.Goals as goal

pub returns-then-is_from : goal.returns-then-is_from
unfolding narrow_stack
returns-then-is_from c = rw (← c.is_from.ensures, c.if-is_from.true) c.narrow_enum.ensures

pub returns : goal.returns
unfolding narrow_stack
returns c = rw (← c.is_from.ensures, c.if-is_from.false)
