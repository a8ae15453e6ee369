-- `checks::asked::result_mask` meets its contract.
use Rattle.checks.proofs.asked.result_mask.Goals as goal

pub returns : goal.returns
returns c = cc
