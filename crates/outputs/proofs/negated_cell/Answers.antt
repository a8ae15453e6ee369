-- `outputs::negated_cell` meets its contract.
use Rattle.outputs.proofs.negated_cell.Goals as goal

pub returns : goal.returns
returns c = cc
