-- `new_values::results::with_both` meets its contract.
use mathlib.Core.Path.{refl}
use Rattle.definition.specs.Outputs.{with_predicate, with_origin}
use Rattle.new_values.proofs.results.with_both.Goals as goal

pub returns : goal.returns
unfolding with_predicate with_origin
returns c = refl
