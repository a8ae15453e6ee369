-- `form_rules::instrs::is_unfit` meets its contract.
use Rattle.definition.specs.Form.{unfitting}
use Rattle.form_rules.proofs.instrs.is_unfit.Goals as goal

pub returns : goal.returns
unfolding unfitting
returns c = cc
