-- `form_rules::instrs::is_too_large` meets its contract.
use Rattle.definition.specs.Form.{too_large}
use borrow.Author.Rules.{rules}
use Rattle.form_rules.proofs.instrs.is_too_large.Goals as goal

pub returns : goal.returns
unfolding too_large
returns c = search rules
