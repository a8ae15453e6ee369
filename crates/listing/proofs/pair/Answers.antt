-- `listing::pair` meets its contract.
use Rattle.listing.proofs.Laid.{and-on}
use Rattle.listing.specs.Listing.{pair_of}
use Rattle.listing.proofs.pair.Goals as goal

pub returns : goal.returns
unfolding pair_of
returns c = and-on c.spaced-at.ensures c.spaced.ensures
