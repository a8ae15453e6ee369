use borrow.Author.Tests.{eq-eqb, ne_eqb}
use Rattle.words.proofs.Cells.{extent-eq}
use Rattle.words.proofs.cell.extent_of.Goals as goal

pub returns-then-tag-eq0 : goal.returns-then-tag-eq0
returns-then-tag-eq0 c = rw (eq-eqb _ _ c.if-tag-eq0.true)

pub returns-then-tag-eq1 : goal.returns-then-tag-eq1
returns-then-tag-eq1 c = rw (ne_eqb _ _ c.if-tag-eq0.false, eq-eqb _ _ c.if-tag-eq1.true) (extent-eq _ _ c.range.ensures)

pub returns : goal.returns
returns c = rw (ne_eqb _ _ c.if-tag-eq0.false, ne_eqb _ _ c.if-tag-eq1.false)
