-- `propagate::cut` meets its contract: only a way that narrows can be cut.
use mathlib.Core.Bool.{not}
use mathlib.Core.Path.{ap}
use Rattle.propagate.proofs.cut.Goals as goal

pub returns-in-None : goal.returns-in-None
returns-in-None c = rw c.in-None.is

pub returns-in-Some : goal.returns-in-Some
returns-in-Some c = rw c.in-Some.is (ap not c.maybe_enum.ensures)
