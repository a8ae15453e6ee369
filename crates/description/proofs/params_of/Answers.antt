-- `description::params_of` meets its contract.
use Rattle.description.specs.Fields.{params_of}
use Rattle.description.proofs.params_of.Goals as goal

pub u8_at-requires : goal.u8_at-requires
u8_at-requires c = tt

pub returns : goal.returns
unfolding params_of
returns c = cc
