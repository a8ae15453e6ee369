-- `step::resets` meets its contract.
use borrow.Author.Rules.{rules}
use Rattle.definition.specs.Ways.{is_reset}
use Rattle.step.proofs.resets.Goals as goal

pub returns : goal.returns
unfolding is_reset
returns c = search rules
