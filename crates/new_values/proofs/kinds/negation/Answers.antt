-- `new_values::kinds::negation` meets its contract.
use Rattle.definition.specs.Outputs.{negation}
use Rattle.new_values.proofs.kinds.negation.Goals as goal

pub returns : goal.returns
unfolding negation
returns c = rw (c.union.ensures, c.if_has-2.ensures, c.if_has.ensures)
