-- `description::heads::chunk_head_at` meets its contract.
use Rattle.description.specs.Fields.{chunk_of}
use Rattle.description.proofs.heads.chunk_head_at.Goals as goal

pub u8_at-requires : goal.u8_at-requires
u8_at-requires c = tt

pub u8_at-requires-2 : goal.u8_at-requires-2
u8_at-requires-2 c = tt

pub u8_at-requires-3 : goal.u8_at-requires-3
u8_at-requires-3 c = tt

pub u8_at-requires-4 : goal.u8_at-requires-4
u8_at-requires-4 c = tt

pub returns : goal.returns
unfolding chunk_of
returns c = cc
