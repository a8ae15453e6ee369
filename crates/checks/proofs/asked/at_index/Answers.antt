-- `checks::asked::at_index` meets its contract.
use borrow.Author.Tests.{eq-eqb, ne_eqb}
use Rattle.definition.specs.Wants.{at_index}
use Rattle.checks.proofs.asked.at_index.Goals as goal

pub returns-then-k-index : goal.returns-then-k-index
unfolding at_index
returns-then-k-index c = rw (eq-eqb c.args.k c.args.index c.if-k-index.true) c.require.ensures

pub returns-else-k-index : goal.returns-else-k-index
unfolding at_index
returns-else-k-index c = rw (ne_eqb c.args.k c.args.index c.if-k-index.false)
