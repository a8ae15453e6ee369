-- `form_rules::instrs::is_misplaced` meets its contract.
use Rattle.definition.specs.Form.{misplaced}
use Rattle.form_rules.proofs.instrs.is_misplaced.Goals as goal

pub returns : goal.returns
unfolding misplaced
returns c = cc
