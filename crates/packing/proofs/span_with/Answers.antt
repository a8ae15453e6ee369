-- `packing::span_with` meets its contract.
use Rattle.packing.proofs.span_with.Goals as goal

pub returns-then-present : goal.returns-then-present
returns-then-present c = rw (c.in-Bytes.is, c.if-present.true) cc

pub returns-else-present : goal.returns-else-present
returns-else-present c = rw (c.in-Bytes.is, c.if-present.false)
