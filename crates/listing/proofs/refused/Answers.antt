-- `listing::refused` meets its contract.
use Rattle.listing.proofs.Laid.{and-on}
use Rattle.listing.specs.Listing.{refused_line}
use Rattle.listing.proofs.refused.Goals as goal

pub returns : goal.returns
unfolding refused_line
returns c = and-on c.append-at.ensures (and-on c.spaced-at.ensures (and-on c.pair-at.ensures c.last.ensures))
