-- `new_values::results::with_origin` meets its contract.
use Rattle.definition.specs.Outputs.{with_predicate, with_origin}
use Rattle.new_values.proofs.results.with_origin.Goals as goal

pub returns : goal.returns
unfolding with_predicate with_origin
returns c = c.with_both.ensures
