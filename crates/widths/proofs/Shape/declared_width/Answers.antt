-- `widths::Shape::declared_width` meets its contract.
use borrow.Author.Tests.{eq-eqb, ne_eqb}
use Rattle.widths.specs.Shape.{declared_width}
use Rattle.widths.proofs.Shape.declared_width.Goals as goal

pub returns-then-self-eq1 : goal.returns-then-self-eq1
unfolding declared_width
returns-then-self-eq1 c = rw (eq-eqb _ _ c.if-self-eq1.true)

pub returns-then-self-eq2 : goal.returns-then-self-eq2
unfolding declared_width
returns-then-self-eq2 c = rw (ne_eqb _ _ c.if-self-eq1.false, eq-eqb _ _ c.if-self-eq2.true)

pub returns : goal.returns
unfolding declared_width
returns c = rw (ne_eqb _ _ c.if-self-eq1.false, ne_eqb _ _ c.if-self-eq2.false)
