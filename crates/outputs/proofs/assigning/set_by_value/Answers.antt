-- `outputs::assigning::set_by_value` meets its contract.
use Rattle.outputs.proofs.assigning.set_by_value.Goals as goal

pub returns : goal.returns
returns c = (cc, cc)
