-- `listing::recorded` meets its contract.
use Rattle.listing.proofs.Laid.{and-on}
use Rattle.listing.specs.Listing.{record_line}
use Rattle.listing.proofs.recorded.Goals as goal

pub returns : goal.returns
unfolding record_line
returns c = rw (← c.u16_at.ensures, ← c.u16_at-2.ensures) (and-on c.number-at.ensures (and-on c.spaced-at.ensures c.cells.ensures))
