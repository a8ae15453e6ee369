-- `report_bound::instr_within` meets its contract.
use Rattle.report_bound.specs.Walk.{instr_within}
use Rattle.report_bound.proofs.instr_within.Goals as goal

pub returns : goal.returns
unfolding instr_within
returns c = rw (c.height_after.ensures.0, c.goes_on.ensures)
