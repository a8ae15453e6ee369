-- `description::reader::place_after` meets its contract.
use Rattle.description.specs.Fields.{len_at}
use Rattle.description.proofs.reader.Laws.{next-read, over-read, after_none}
use Rattle.description.proofs.reader.place_after.Goals as goal

pub returns-then-next-n : goal.returns-then-next-n
unfolding len_at
returns-then-next-n c = next-read _ _ _ c.u16_at.ensures c.if-next-n.true

pub returns-else-next-n : goal.returns-else-next-n
unfolding len_at
returns-else-next-n c = over-read _ _ _ c.u16_at.ensures c.if-next-n.false

pub returns-else-at-n : goal.returns-else-at-n
returns-else-at-n c = after_none _ _ c.if-at-n.false
