-- `checks::asked::yielded_mask` meets its contract.
use Rattle.checks.proofs.asked.yielded_mask.Goals as goal

pub returns : goal.returns
returns c = cc
