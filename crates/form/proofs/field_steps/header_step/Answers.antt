-- `form::field_steps::header_step` meets its contract.
use Rattle.definition.specs.Form.{header_step}
use Rattle.form.proofs.field_steps.header_step.Goals as goal

pub returns : goal.returns
unfolding header_step
returns c = cc
