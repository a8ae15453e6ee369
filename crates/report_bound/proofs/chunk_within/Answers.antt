-- `report_bound::chunk_within` meets its contract.
use Rattle.report_bound.specs.Walk.{chunk_within}
use Rattle.report_bound.proofs.chunk_within.Goals as goal

pub returns : goal.returns
unfolding chunk_within
returns c = rw c.chunk_head_at-c.ensures
