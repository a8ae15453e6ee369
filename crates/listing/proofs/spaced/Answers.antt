-- `listing::spaced` meets its contract.
use Rattle.listing.proofs.Laid.{and-on}
use Rattle.listing.specs.Listing.{spaced}
use Rattle.listing.proofs.spaced.Goals as goal

pub returns : goal.returns
unfolding spaced
returns c = and-on c.push-at.ensures c.number.ensures
