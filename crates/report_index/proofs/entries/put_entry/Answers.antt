-- `report_index::entries::put_entry` meets its contract.
use Rattle.le.proofs.Laws.{and_then}
use Rattle.report_index.specs.Index.{entry_bytes}
use Rattle.report_index.proofs.entries.put_entry.Goals as goal

pub returns : goal.returns
unfolding entry_bytes
returns c =
    and_then c.put16-at.ensures
    (and_then c.put16-at-2.ensures (and_then c.put32-at.ensures c.put32.ensures))
