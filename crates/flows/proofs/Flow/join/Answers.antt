-- `flows::Flow::join` meets its contract.
use Rattle.flows.proofs.Same.{flow-same}
use Rattle.flows.proofs.Flow.join.Goals as goal

pub returns : goal.returns
returns c = rw (c.ne.ensures, flow-same, c.with-f.ensures)
