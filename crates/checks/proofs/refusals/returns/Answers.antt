-- `checks::refusals::returns` meets its contract.
use borrow.Author.Rules.{rules}
use Rattle.definition.specs.Leaves.{is_return}
use Rattle.checks.proofs.refusals.returns.Goals as goal

pub returns : goal.returns
unfolding is_return
returns c = search rules
