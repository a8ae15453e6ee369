-- `ways::narrowing` meets its contract.
use Rattle.definition.specs.Ways.{narrowing}
use Rattle.ways.proofs.narrowing.Goals as goal

pub returns-in-Next : goal.returns-in-Next
unfolding narrowing
returns-in-Next c = rw c.in-Next.is

pub returns-in-Stops : goal.returns-in-Stops
unfolding narrowing
returns-in-Stops c = rw c.in-Stops.is

pub returns-in-Jumps : goal.returns-in-Jumps
unfolding narrowing
returns-in-Jumps c = rw c.in-Jumps.is

pub returns-in-Ifs : goal.returns-in-Ifs
unfolding narrowing
returns-in-Ifs c = rw c.in-Ifs.is c.receiver_on.ensures

pub returns-in-Breaks : goal.returns-in-Breaks
unfolding narrowing
returns-in-Breaks c = rw c.in-Breaks.is c.receiver_on-in-Breaks.ensures

pub returns-in-Restarts : goal.returns-in-Restarts
unfolding narrowing
returns-in-Restarts c = rw c.in-Restarts.is
