-- `report_index::entries::is_before` meets its contract.
use Rattle.report_index.specs.Index.{entry_no, is_before}
use Rattle.report_index.proofs.entries.is_before.Goals as goal

pub returns : goal.returns
unfolding is_before entry_no
returns c = cc
