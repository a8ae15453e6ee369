-- `form::field_steps::so_far` meets its contract.
use borrow.Author.Tests.{eq-eqb, ne_eqb}
use Rattle.definition.specs.Form.{so_far}
use Rattle.form.proofs.field_steps.so_far.Goals as goal

pub returns-then-scan-tag : goal.returns-then-scan-tag
unfolding so_far
returns-then-scan-tag c = rw (eq-eqb _ _ c.if-scan-tag.true)

pub returns : goal.returns
unfolding so_far
returns c = rw (ne_eqb _ _ c.if-scan-tag.false)
