-- `listing::last` meets its contract.
use Rattle.listing.proofs.Laid.{and-on}
use Rattle.listing.specs.Listing.{last_of}
use Rattle.listing.proofs.last.Goals as goal

pub returns : goal.returns
unfolding last_of
returns c = and-on c.spaced-at.ensures c.push.ensures
