-- `description::heads::instr_at` meets its contract.
use Rattle.description.specs.Fields.{instr_of}
use Rattle.description.proofs.heads.instr_at.Goals as goal

pub u8_at-requires : goal.u8_at-requires
u8_at-requires c = tt

pub u8_at-requires-2 : goal.u8_at-requires-2
u8_at-requires-2 c = tt

pub u8_at-requires-3 : goal.u8_at-requires-3
u8_at-requires-3 c = tt

pub returns : goal.returns
unfolding instr_of
returns c = cc
