-- `report_bound::is_reset` meets its contract.
use Rattle.definition.specs.Ways.{is_reset}
use borrow.Author.Rules.{rules}
use Rattle.report_bound.proofs.is_reset.Goals as goal

pub returns : goal.returns
unfolding is_reset
returns c = search rules
