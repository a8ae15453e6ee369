-- `masks::Mask::immediate` meets its contract.
use borrow.Author.Tests.{ne_eqb}
use Rattle.masks.specs.Mask.{immediate}
use Rattle.masks.proofs.Mask.immediate.Goals as goal

pub returns-then-operand-eq0 : goal.returns-then-operand-eq0
unfolding immediate
returns-then-operand-eq0 c = rw c.if-operand-eq0.true

pub returns-then-operand-eq1 : goal.returns-then-operand-eq1
unfolding immediate
returns-then-operand-eq1 c = rw c.if-operand-eq1.true

pub returns-then-operand-eq2 : goal.returns-then-operand-eq2
unfolding immediate
returns-then-operand-eq2 c = rw c.if-operand-eq2.true

pub returns-then-operand : goal.returns-then-operand
unfolding immediate
returns-then-operand c = rw (ne_eqb _ _ c.if-operand-eq0.false, ne_eqb _ _ c.if-operand-eq1.false, ne_eqb _ _ c.if-operand-eq2.false, c.if-operand.true)

pub returns : goal.returns
unfolding immediate
returns c = rw (ne_eqb _ _ c.if-operand-eq0.false, ne_eqb _ _ c.if-operand-eq1.false, ne_eqb _ _ c.if-operand-eq2.false, c.if-operand.false)
