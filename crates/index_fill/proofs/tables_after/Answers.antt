use Rattle.index_fill.specs.model.Model.{tables_after}
use borrow.Author.Tests.{ne_eqb}
use Rattle.index_fill.proofs.tables_after.Goals as goal

pub returns-in-5 : goal.returns-in-5
unfolding tables_after
returns-in-5 c = rw (c.in-5.is, c.first_at.ensures)

pub returns-in-6 : goal.returns-in-6
unfolding tables_after
returns-in-6 c = rw (c.in-6.is, c.first_at-in-6.ensures)

pub returns-in-7 : goal.returns-in-7
unfolding tables_after
returns-in-7 c = rw (c.in-7.is, ← c.u16_at.ensures)

pub returns-in-8 : goal.returns-in-8
unfolding tables_after
returns-in-8 c = rw c.in-8.is

pub returns-in_default : goal.returns-in_default
unfolding tables_after
returns-in_default c = rw (ne_eqb _ _ c.in_default.in_default-own.rest.0.0.0.1, ne_eqb _ _ c.in_default.in_default-own.rest.0.0.1, ne_eqb _ _ c.in_default.in_default-own.rest.0.1, ne_eqb _ _ c.in_default.in_default-own.rest.1)
