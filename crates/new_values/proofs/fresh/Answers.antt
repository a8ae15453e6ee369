-- `new_values::fresh` meets its contract.
use Rattle.definition.specs.Data.{fresh}
use Rattle.new_values.proofs.fresh.Goals as goal

pub returns : goal.returns
unfolding fresh
returns c = rw c.new.ensures
