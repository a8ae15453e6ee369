-- `outputs::reply_cell` meets its contract.
use Rattle.definition.specs.Outputs.{reply_shape}
use Rattle.outputs.proofs.reply_cell.Goals as goal

pub returns : goal.returns
unfolding reply_shape
returns c = cc
