-- `index::access::set_suspends` meets its contract.
use Rattle.index.proofs.access.set_suspends.Goals as goal

pub returns : goal.returns
returns c = rw c.numbers_at-at.ensures
