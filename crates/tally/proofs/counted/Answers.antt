-- `tally::counted` meets its contract.
use Rattle.tally.proofs.counted.Goals as goal

pub returns-then-fine : goal.returns-then-fine
returns-then-fine c = rw (c.if-fine.true, c.wrapping_add_u32.ensures.value)

pub returns : goal.returns
returns c = rw (c.if-fine.false, c.wrapping_add_u32-2.ensures.value)
