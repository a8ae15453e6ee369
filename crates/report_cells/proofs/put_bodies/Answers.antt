-- `report_cells::put_bodies` meets its contract.
use Rattle.le.proofs.Laws.{and_then}
use Rattle.report_cells.proofs.Laws.{said, four}
use borrow.Author.Rules.{rules}
use Rattle.report_cells.proofs.put_bodies.Goals as goal

pub returns : goal.returns
returns c =
    said
    (and_then c.put_extent-at.ensures
    (and_then c.put_extent-at-2.ensures
    (and_then c.put_extent-at-3.ensures c.put_extent.ensures)))
    (four _ _ (search rules))
