-- `report_size::recorded::known_branch` meets its contract.
use Rattle.report_size.proofs.recorded.Told.{decided-by}
use Rattle.report_size.proofs.recorded.known_branch.Goals as goal

pub returns : goal.returns
returns c =
    let a = c.args in
    decided-by a.ws.now a.row a.op c.is_recorded.result c.top_mask-m.result c.is_recorded.ensures
    c.top_mask-m.ensures c.eq.result c.eq-2.result c.eq.ensures c.eq-2.ensures
