-- `flows::Flow::maximum` meets its contract.
use Rattle.flows.specs.Flow.{maximum_of}
use Rattle.flows.proofs.Flow.maximum.Goals as goal

pub returns : goal.returns
unfolding maximum_of
returns c = c.largest.ensures
