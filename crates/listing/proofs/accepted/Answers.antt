-- `listing::accepted` meets its contract.
use Rattle.listing.proofs.Laid.{and-on}
use Rattle.listing.specs.Listing.{accepted_line}
use Rattle.listing.proofs.accepted.Goals as goal

pub returns : goal.returns
unfolding accepted_line
returns c = and-on c.append-at.ensures (and-on c.spaced-at.ensures (and-on c.append-at-2.ensures c.last.ensures))
