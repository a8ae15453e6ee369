-- `new_values::results::status_mask` meets its contract.
use borrow.Author.Tests.{ne_eqb}
use Rattle.definition.specs.Outputs.{status_mask}
use Rattle.new_values.proofs.results.status_mask.Goals as goal

pub returns-then-given-eq2 : goal.returns-then-given-eq2
unfolding status_mask
returns-then-given-eq2 c = rw c.if-given-eq2.true

pub returns : goal.returns
unfolding status_mask
returns c = rw (ne_eqb _ _ c.if-given-eq2.false)
