-- `listing::masks` meets its contract.
use Rattle.listing.specs.Listing.{masks_of}
use borrow.Author.Tests.{ne_eqb}
use Rattle.listing.proofs.masks.Goals as goal

pub returns-then-n-eq0 : goal.returns-then-n-eq0
unfolding masks_of
returns-then-n-eq0 c = rw c.if-n-eq0.true c.append.ensures

pub returns : goal.returns
unfolding masks_of
returns c = rw (ne_eqb _ _ c.if-n-eq0.false) c.masks_from.ensures
