-- `row_join::places::untouched` meets its contract.
use Rattle.row_join.proofs.places.untouched.Goals as goal

pub returns : goal.returns
returns c = rw c.is_plain.ensures
