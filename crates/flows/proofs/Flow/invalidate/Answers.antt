-- `flows::Flow::invalidate` meets its contract.
use Rattle.flows.specs.Flow.{invalidated}
use Rattle.flows.proofs.Flow.invalidate.Goals as goal

pub returns : goal.returns
unfolding invalidated
returns c = rw (c.without.ensures, c.origin_without.ensures)
