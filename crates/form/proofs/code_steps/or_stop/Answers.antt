-- `form::code_steps::or_stop` meets its contract.
use borrow.Author.Tests.{ne_eqb}
use Rattle.form.proofs.code_steps.or_stop.Goals as goal

pub returns-then-number-eq0 : goal.returns-then-number-eq0
returns-then-number-eq0 c = rw c.if-number-eq0.true

pub returns-else-number-eq0 : goal.returns-else-number-eq0
returns-else-number-eq0 c = rw (ne_eqb _ _ c.if-number-eq0.false)
