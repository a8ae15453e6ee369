-- `flows::Flow::bare` meets its contract.
use mathlib.Core.Path.{refl}
use Rattle.flows.specs.Flow.{bare}
use Rattle.flows.proofs.Flow.bare.Goals as goal

pub returns : goal.returns
unfolding bare
returns c = refl
