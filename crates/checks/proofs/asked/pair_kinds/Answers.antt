-- `checks::asked::pair_kinds` meets its contract.
use Rattle.checks.proofs.asked.pair_kinds.Goals as goal

pub returns : goal.returns
returns c = cc
