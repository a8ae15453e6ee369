use borrow.Author.Tests.{eq-eqb, ne_eqb}
use Rattle.words.proofs.cell.predicate_of.Goals as goal

pub returns-then-tag-eq0 : goal.returns-then-tag-eq0
returns-then-tag-eq0 c = rw (eq-eqb _ _ c.if-tag-eq0.true)

pub returns-else-tag-eq0 : goal.returns-else-tag-eq0
returns-else-tag-eq0 c = rw (ne_eqb _ _ c.if-tag-eq0.false)
