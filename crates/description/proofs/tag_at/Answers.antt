-- `description::tag_at` meets its contract.
use Rattle.description.specs.Fields.{tag_at}
use Rattle.description.proofs.tag_at.Goals as goal

pub u8_at-requires : goal.u8_at-requires
u8_at-requires c = tt

pub returns : goal.returns
unfolding tag_at
returns c = cc
