-- `description::shapes::declared_result` meets its contract.
use Rattle.description.specs.Fields.{result_of}
use Rattle.description.proofs.shapes.declared_result.Goals as goal

pub returns : goal.returns
unfolding result_of
returns c = cc
