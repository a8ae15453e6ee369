-- `flows::Flow::with` meets its contract.
use Rattle.flows.specs.Flow.{join_flow}
use Rattle.flows.proofs.Flow.with.Goals as goal

pub returns : goal.returns
unfolding join_flow
returns c = rw (c.join.ensures, c.join_origin.ensures, c.join_bodies.ensures)
