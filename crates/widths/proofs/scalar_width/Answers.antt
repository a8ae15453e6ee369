-- `widths::scalar_width` meets its contract.
use borrow.Author.Tests.{ne_eqb}
use Rattle.widths.specs.Width.{scalar_width}
use Rattle.widths.proofs.scalar_width.Goals as goal

pub returns-in-1 : goal.returns-in-1
unfolding scalar_width
returns-in-1 c = rw (← c.kind-folded.ensures, c.in-1.is)

pub returns-in-2 : goal.returns-in-2
unfolding scalar_width
returns-in-2 c = rw (← c.kind-folded.ensures, c.in-2.is)

pub returns-in-4 : goal.returns-in-4
unfolding scalar_width
returns-in-4 c = rw (← c.kind-folded.ensures, c.in-4.is)

pub returns-in-8 : goal.returns-in-8
unfolding scalar_width
returns-in-8 c = rw (← c.kind-folded.ensures, c.in-8.is)

pub returns-in-16 : goal.returns-in-16
unfolding scalar_width
returns-in-16 c = rw (← c.kind-folded.ensures, c.in-16.is)

pub returns-in-32 : goal.returns-in-32
unfolding scalar_width
returns-in-32 c = rw (← c.kind-folded.ensures, c.in-32.is)

pub returns-in_default : goal.returns-in_default
unfolding scalar_width
returns-in_default c = rw (← c.kind-folded.ensures, ne_eqb _ _ c.in_default.in_default-own.rest.0.0.0.0.0.1, ne_eqb _ _ c.in_default.in_default-own.rest.0.0.0.0.1, ne_eqb _ _ c.in_default.in_default-own.rest.0.0.0.1, ne_eqb _ _ c.in_default.in_default-own.rest.0.0.1, ne_eqb _ _ c.in_default.in_default-own.rest.0.1, ne_eqb _ _ c.in_default.in_default-own.rest.1)
