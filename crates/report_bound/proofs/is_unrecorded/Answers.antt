-- `report_bound::is_unrecorded` meets its contract.
use Rattle.report_bound.specs.Most.{unrecorded}
use Rattle.report_bound.proofs.is_unrecorded.Goals as goal

pub returns : goal.returns
unfolding unrecorded
returns c = rw (c.is_hopeless.ensures, c.rule_of-rule.ensures)
