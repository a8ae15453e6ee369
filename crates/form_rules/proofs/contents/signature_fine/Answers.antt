-- `form_rules::contents::signature_fine` meets its contract.
use Rattle.definition.specs.Form.{signature_fine}
use Rattle.form_rules.proofs.contents.signature_fine.Goals as goal

pub returns-then-signed : goal.returns-then-signed
unfolding signature_fine
returns-then-signed c = rw c.if-signed.true (cc)

pub returns : goal.returns
unfolding signature_fine
returns c = rw c.if-signed.false
