-- `start::bounded` meets its contract.
use Rattle.std.specs.Prelude.{Err}
use mathlib.Core.Path.{ap}
use Rattle.start.specs.Settled.{ended}
use Rattle.start.proofs.bounded.Goals as goal

pub returns-in-None : goal.returns-in-None
unfolding ended
returns-in-None c = rw c.in-None.is (ap Err c.nowhere.ensures)

pub returns-then-t : goal.returns-then-t
unfolding ended
returns-then-t c = rw (c.in-Some.is, c.if-t.true) (ap Err c.nowhere-then-t.ensures)

pub returns-else-t : goal.returns-else-t
unfolding ended
returns-else-t c = rw (c.in-Some.is, c.if-t.false)
