-- `new_values::results::tested` meets its contract.
use Rattle.definition.specs.Outputs.{tested}
use Rattle.new_values.proofs.results.tested.Goals as goal

pub returns : goal.returns
unfolding tested
returns c = rw (c.with_predicate.ensures, c.predicate_on.ensures, c.made.ensures, c.inspection.ensures)
