-- `wants::part_of` meets its contract.
use borrow.Author.Tests.{lt-ltb, le-ltb}
use Rattle.definition.specs.Wants.{part_want}
use Rattle.wants.proofs.part_of.Goals as goal

pub returns-then-i-gt1 : goal.returns-then-i-gt1
unfolding part_want
returns-then-i-gt1 c = rw (lt-ltb _ _ c.if-i-gt1.true) c.never.ensures

pub returns : goal.returns
unfolding part_want
returns c = rw (le-ltb _ _ c.if-i-gt1.false) c.one.ensures
