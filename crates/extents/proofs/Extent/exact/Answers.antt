-- `extents::Extent::exact` meets its contract.
use borrow.Author.Tests.{eq-eqb, ne_eqb}
use Rattle.extents.proofs.Extent.exact.Goals as goal

pub returns-then-min-max : goal.returns-then-min-max
returns-then-min-max c = rw (c.in-Range.is, eq-eqb _ _ c.if-min-max.true)

pub returns-else-min-max : goal.returns-else-min-max
returns-else-min-max c = rw (c.in-Range.is, ne_eqb _ _ c.if-min-max.false)
