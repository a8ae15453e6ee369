-- `packing::Packed::constructed` meets its contract.
use borrow.Author.Tests.{lt-ltb, le-ltb}
use Rattle.packing.proofs.Packed.constructed.Goals as goal

pub returns-in-Nothing : goal.returns-in-Nothing
returns-in-Nothing c = cc

pub returns-then-size-max : goal.returns-then-size-max
returns-then-size-max c = rw (c.in-Bytes.is, lt-ltb _ _ c.if-size-max.true)

pub returns-then-kind-gt1 : goal.returns-then-kind-gt1
returns-then-kind-gt1 c = rw (c.in-Bytes.is, le-ltb _ _ c.if-size-max.false, lt-ltb _ _ c.if-kind-gt1.true) (λ i. record { body = c.range.ensures i })

pub returns-else-kind-gt1 : goal.returns-else-kind-gt1
returns-else-kind-gt1 c = rw (c.in-Bytes.is, le-ltb _ _ c.if-size-max.false, le-ltb _ _ c.if-kind-gt1.false) (λ i. record { body = c.range-else-kind-gt1.ensures i })
