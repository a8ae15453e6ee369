-- `checks::refusals::never_proven` meets its contract.
use Rattle.checks.specs.refusals.Never.{never_proven}
use Rattle.checks.proofs.refusals.never_proven.Goals as goal

pub returns : goal.returns
unfolding never_proven
returns c = cc
