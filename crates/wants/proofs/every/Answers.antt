-- `wants::every` meets its contract.
use borrow.Author.Tests.{ne_eqb}
use Rattle.definition.specs.Wants.{every}
use Rattle.wants.proofs.every.Goals as goal

pub returns-then-common-eq0 : goal.returns-then-common-eq0
unfolding every
returns-then-common-eq0 c = rw c.if-common-eq0.true c.never.ensures

pub returns : goal.returns
unfolding every
returns c = rw (ne_eqb _ _ c.if-common-eq0.false)
