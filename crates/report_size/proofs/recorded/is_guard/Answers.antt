-- `report_size::recorded::is_guard` meets its contract.
use Rattle.report_size.specs.recorded.Guard.{is_guard}
use borrow.Author.Rules.{rules}
use Rattle.report_size.proofs.recorded.is_guard.Goals as goal

pub returns-in-Guard : goal.returns-in-Guard
unfolding is_guard
returns-in-Guard c = search rules

pub returns-in_default : goal.returns-in_default
unfolding is_guard
returns-in_default c = search rules
