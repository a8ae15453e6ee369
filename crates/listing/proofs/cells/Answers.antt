-- `listing::cells` meets its contract.
use Rattle.listing.proofs.Laid.{and-on}
use Rattle.listing.specs.Listing.{cells_of}
use Rattle.listing.proofs.cells.Goals as goal

pub returns : goal.returns
unfolding cells_of
returns c = rw (← c.u16_at-stack.ensures, ← c.u16_at-locals.ensures) (and-on c.named-at.ensures (and-on c.named-at-2.ensures c.push.ensures))
