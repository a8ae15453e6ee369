-- `new_values::kinds::if_has` meets its contract.
use Rattle.definition.specs.Outputs.{if_has}
use Rattle.new_values.proofs.kinds.if_has.Goals as goal

pub returns-then-has : goal.returns-then-has
unfolding if_has
returns-then-has c = rw (← c.has.ensures, c.if-has.true)

pub returns : goal.returns
unfolding if_has
returns c = rw (← c.has.ensures, c.if-has.false)
