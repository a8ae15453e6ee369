-- `row_join::places::is_from` meets its contract.
use Rattle.definition.specs.Ways.{is_from}
use Rattle.row_join.proofs.places.is_from.Goals as goal

pub returns-in-None : goal.returns-in-None
unfolding is_from
returns-in-None c = cc

pub returns-in-Some : goal.returns-in-Some
unfolding is_from
returns-in-Some c = rw c.in-Some.is
