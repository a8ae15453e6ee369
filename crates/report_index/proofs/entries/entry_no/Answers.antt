-- `report_index::entries::entry_no` meets its contract.
use Rattle.report_index.specs.Index.{entry_no}
use Rattle.report_index.proofs.entries.entry_no.Goals as goal

pub returns : goal.returns
unfolding entry_no
returns c = cc
