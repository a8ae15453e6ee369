-- `index::entries::shared_mask` meets its contract.
use borrow.Author.Tests.{lt-ltb, le-ltb}
use Rattle.definition.specs.Data.{shared_mask}
use Rattle.index.proofs.entries.shared_mask.Goals as goal

pub scalar-requires : goal.scalar-requires
scalar-requires c = tt

pub body-requires : goal.body-requires
body-requires c = tt

pub returns-then-kind-lt8 : goal.returns-then-kind-lt8
unfolding shared_mask
returns-then-kind-lt8 c = rw (lt-ltb _ _ c.if-kind-lt8.true) c.scalar.ensures

pub returns-else-kind-lt8 : goal.returns-else-kind-lt8
unfolding shared_mask
returns-else-kind-lt8 c = rw (le-ltb _ _ c.if-kind-lt8.false) c.body.ensures
