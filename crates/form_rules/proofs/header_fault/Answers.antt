-- `form_rules::header_fault` meets its contract.
use Rattle.definition.specs.Form.{header_fault}
use Rattle.form_rules.proofs.header_fault.Goals as goal

pub returns : goal.returns
unfolding header_fault
returns c = cc
