-- `listing::list` meets its contract.
use Rattle.listing.specs.Listing.{listing}
use Rattle.listing.proofs.list.Goals as goal

pub returns-in-Err : goal.returns-in-Err
unfolding listing
returns-in-Err c = rw c.in-Err.is c.refused.ensures

pub returns-in-Ok : goal.returns-in-Ok
unfolding listing
returns-in-Ok c = rw (c.in-Ok.is, ← c.first.ensures) c.lines.ensures
