-- `listing::digit` meets its contract.
use Rattle.listing.proofs.Laid.{laid_none}
use Rattle.listing.specs.Decimal.{digit_of}
use borrow.Author.Tests.{lt-ltb, le-ltb}
use Rattle.listing.proofs.digit.Goals as goal

pub returns-then-n-p : goal.returns-then-n-p
unfolding digit_of
returns-then-n-p c = rw (lt-ltb _ _ c.if-n-p.true) (laid_none _ _ c.requires.0)

pub returns : goal.returns
unfolding digit_of
returns c = rw (le-ltb _ _ c.if-n-p.false) c.push.ensures
