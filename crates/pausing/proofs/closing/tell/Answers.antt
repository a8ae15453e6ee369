-- `pausing::closing::tell` meets its contract.
use Rattle.pausing.proofs.closing.tell.Goals as goal

pub returns-then-indexed : goal.returns-then-indexed
returns-then-indexed c = rw c.if-indexed.true c.told_indexed.ensures

pub returns : goal.returns
returns c = rw c.if-indexed.false (c.told.ensures _)
