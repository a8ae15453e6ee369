-- `widths::Shape::mask` meets its contract.
use borrow.Author.Tests.{eq-eqb, ne_eqb}
use Rattle.widths.specs.Shape.{shape_mask}
use Rattle.widths.proofs.Shape.mask.Goals as goal

pub returns-then-self-eq1 : goal.returns-then-self-eq1
unfolding shape_mask
returns-then-self-eq1 c = rw (eq-eqb _ _ c.if-self-eq1.true) c.scalar.ensures

pub returns-then-self-eq2 : goal.returns-then-self-eq2
unfolding shape_mask
returns-then-self-eq2 c = rw (ne_eqb _ _ c.if-self-eq1.false, eq-eqb _ _ c.if-self-eq2.true) c.body.ensures

pub returns : goal.returns
unfolding shape_mask
returns c = rw (ne_eqb _ _ c.if-self-eq1.false, ne_eqb _ _ c.if-self-eq2.false)
