-- `new_values::results::inspection` meets its contract.
use borrow.Author.Tests.{ne_eqb}
use Rattle.definition.specs.Outputs.{inspection}
use Rattle.new_values.proofs.results.inspection.Goals as goal

pub returns-then-m-eq0 : goal.returns-then-m-eq0
unfolding inspection
returns-then-m-eq0 c = rw c.if-m-eq0.true

pub returns-then-has : goal.returns-then-has
unfolding inspection
returns-then-has c = rw (ne_eqb _ _ c.if-m-eq0.false, ← c.has.ensures, c.if-has.true)

pub returns : goal.returns
unfolding inspection
returns c = rw (ne_eqb _ _ c.if-m-eq0.false, ← c.has.ensures, c.if-has.false)
