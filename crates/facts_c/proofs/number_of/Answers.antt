-- `facts_c::number_of` meets its contract.
use mathlib.Core.Path.{ap}
use lib.ListN.{get_or}
use Rattle.facts_c.proofs.Cases.{in-accepted, in-refused}
use Rattle.facts_c.proofs.number_of.Goals as goal

pub returns-in-Ok : goal.returns-in-Ok
returns-in-Ok c = ap (λ l. get_or l 0 0) (in-accepted _ _ c.in-Ok.is)

pub returns-in-Err : goal.returns-in-Err
returns-in-Err c = ap (λ l. get_or l 0 0) (in-refused _ _ c.in-Err.is)
