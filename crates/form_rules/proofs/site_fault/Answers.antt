-- `form_rules::site_fault` meets its contract.
use Rattle.definition.specs.Form.{site_fault}
use Rattle.form_rules.proofs.site_fault.Goals as goal

pub returns : goal.returns
unfolding site_fault
returns c = cc
