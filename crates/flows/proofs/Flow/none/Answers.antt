-- `flows::Flow::none` meets its contract.
use mathlib.Core.Path.{refl}
use Rattle.flows.specs.Flow.{no_flow}
use Rattle.flows.proofs.Flow.none.Goals as goal

pub returns : goal.returns
unfolding no_flow
returns c = refl
