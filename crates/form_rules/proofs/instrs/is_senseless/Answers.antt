-- `form_rules::instrs::is_senseless` meets its contract.
use Rattle.definition.specs.Form.{senseless}
use borrow.Author.Rules.{rules}
use Rattle.form_rules.proofs.instrs.is_senseless.Goals as goal

pub returns : goal.returns
unfolding senseless
returns c = search rules
