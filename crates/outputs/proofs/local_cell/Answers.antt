-- `outputs::local_cell` meets its contract.
use Rattle.outputs.proofs.local_cell.Goals as goal

pub returns : goal.returns
returns c = cc
