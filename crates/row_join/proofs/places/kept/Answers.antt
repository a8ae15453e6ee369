-- `row_join::places::kept` meets its contract, by the cases of its two tests.
use Rattle.row_join.specs.places.Arrive.{kept_cell}
use borrow.Author.Tests.{eq-eqb, ne_eqb}
use Rattle.row_join.proofs.places.kept.Goals as goal

pub returns-then-forget-ne-NO_LOCAL : goal.returns-then-forget-ne-NO_LOCAL
unfolding kept_cell
returns-then-forget-ne-NO_LOCAL c = rw (ne_eqb _ _ c.if-forget-ne-NO_LOCAL.true) c.invalidate.ensures

pub returns-then-narrow-ne-NO_LOCAL : goal.returns-then-narrow-ne-NO_LOCAL
unfolding kept_cell
returns-then-narrow-ne-NO_LOCAL c = rw (eq-eqb _ _ c.if-forget-ne-NO_LOCAL.false, ne_eqb _ _ c.if-narrow-ne-NO_LOCAL.true) c.narrowed_with.ensures

pub returns : goal.returns
unfolding kept_cell
returns c = rw (eq-eqb _ _ c.if-forget-ne-NO_LOCAL.false, eq-eqb _ _ c.if-narrow-ne-NO_LOCAL.false)
