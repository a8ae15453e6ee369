-- `description::shapes::param_at` meets its contract.
use Rattle.description.specs.Fields.{param_of}
use Rattle.description.proofs.shapes.param_at.Goals as goal

pub returns : goal.returns
unfolding param_of
returns c = cc
