-- `listing::named` meets its contract.
use Rattle.listing.proofs.Laid.{and-on}
use Rattle.listing.specs.Listing.{named_of}
use Rattle.listing.proofs.named.Goals as goal

pub returns : goal.returns
unfolding named_of
returns c = and-on c.append-at.ensures c.masks.ensures
