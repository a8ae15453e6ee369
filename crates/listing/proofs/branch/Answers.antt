-- `listing::branch` meets its contract.
use Rattle.listing.proofs.Laid.{and-on}
use Rattle.listing.specs.Listing.{branch_line}
use Rattle.listing.proofs.branch.Goals as goal

pub returns : goal.returns
unfolding branch_line
returns c = rw (← c.u16_at.ensures, ← c.u16_at-2.ensures, ← c.u8_at.ensures) (and-on c.append-at.ensures (and-on c.pair-at.ensures c.last.ensures))
