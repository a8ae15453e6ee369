-- `new_values::results::predicate_on` meets its contract.
use Rattle.definition.specs.Outputs.{predicate_on}
use Rattle.new_values.proofs.results.predicate_on.Goals as goal

pub returns-in-None : goal.returns-in-None
unfolding predicate_on
returns-in-None c = rw c.in-None.is

pub returns-then-eq : goal.returns-then-eq
unfolding predicate_on
returns-then-eq c = rw (c.in-Some.is, ← c.eq.ensures, c.if-eq.true)

pub returns-else-eq : goal.returns-else-eq
unfolding predicate_on
returns-else-eq c = rw (c.in-Some.is, ← c.eq.ensures, c.if-eq.false)
