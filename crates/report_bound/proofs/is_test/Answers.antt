-- `report_bound::is_test` meets its contract.
use Rattle.definition.specs.Report.{is_test}
use borrow.Author.Rules.{rules}
use Rattle.report_bound.proofs.is_test.Goals as goal

pub returns : goal.returns
unfolding is_test
returns c = search rules
