-- `listing::push` meets its contract.
use Rattle.listing.proofs.Laid.{laid_one, laid-past}
use Rattle.listing.proofs.push.Goals as goal

pub returns-then-at-buf : goal.returns-then-at-buf
returns-then-at-buf c = laid_one _ _ _ c.if-at-buf.true

pub returns : goal.returns
returns c = laid-past _ _ _ c.requires c.if-at-buf.false
