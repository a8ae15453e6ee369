-- `report_index::agreement::is_entry` meets its contract.
use borrow.Author.Rules.{rules}
use Rattle.report_index.specs.Index.{same}
use Rattle.report_index.proofs.agreement.is_entry.Goals as goal

pub returns : goal.returns
unfolding same
returns c = search rules
