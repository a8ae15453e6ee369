-- `form::field_steps::site_step` meets its contract.
use Rattle.definition.specs.Form.{site_step}
use Rattle.form.proofs.field_steps.site_step.Goals as goal

pub returns : goal.returns
unfolding site_step
returns c = cc
