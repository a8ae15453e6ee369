-- `description::len_at` meets its contract.
use Rattle.description.specs.Fields.{len_at}
use Rattle.description.proofs.len_at.Goals as goal

pub returns : goal.returns
unfolding len_at
returns c = cc
