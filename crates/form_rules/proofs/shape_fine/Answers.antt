-- `form_rules::shape_fine` meets its contract.
use Rattle.definition.specs.Form.{shape_fine}
use borrow.Author.Rules.{rules}
use Rattle.form_rules.proofs.shape_fine.Goals as goal

pub returns : goal.returns
unfolding shape_fine
returns c = search rules
