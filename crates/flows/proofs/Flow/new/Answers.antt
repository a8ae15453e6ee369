-- `flows::Flow::new` meets its contract.
use Rattle.flows.specs.Flow.{new_flow}
use Rattle.flows.proofs.Flow.new.Goals as goal

pub returns : goal.returns
unfolding new_flow
returns c = rw (c.extent_of-4.ensures, c.has-4.ensures, c.extent_of-3.ensures, c.has-3.ensures, c.extent_of-2.ensures, c.has-2.ensures, c.extent_of.ensures, c.has.ensures)
