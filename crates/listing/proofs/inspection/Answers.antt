-- `listing::inspection` meets its contract.
use Rattle.listing.proofs.Laid.{and-on}
use Rattle.listing.specs.Listing.{inspection_line}
use Rattle.listing.proofs.inspection.Goals as goal

pub returns : goal.returns
unfolding inspection_line
returns c = rw (← c.u16_at.ensures, ← c.u16_at-2.ensures) (and-on c.append-at.ensures (and-on c.spaced-at.ensures c.last.ensures))
