use borrow.Author.Tests.{lt-ltb, le-ltb}
use Rattle.ring.proofs.wrap.Goals as goal

pub returns-then-at-cap : goal.returns-then-at-cap
returns-then-at-cap c = rw (lt-ltb _ _ c.if-at-cap.true)

pub returns-else-at-cap : goal.returns-else-at-cap
returns-else-at-cap c = rw (le-ltb _ _ c.if-at-cap.false)
