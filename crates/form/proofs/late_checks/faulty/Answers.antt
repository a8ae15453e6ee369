-- `form::late_checks::faulty` meets its contract.
use Rattle.definition.specs.Form.{late_fault}
use Rattle.form.proofs.late_checks.faulty.Goals as goal

pub returns : goal.returns
unfolding late_fault
returns c = cc
