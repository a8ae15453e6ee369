-- `new_values::owned_if` meets its contract.
use mathlib.Core.Path.{refl}
use Rattle.definition.specs.Outputs.{owned_if}
use Rattle.new_values.proofs.owned_if.Goals as goal

pub returns : goal.returns
unfolding owned_if
returns c = refl
