-- `ways::branch` meets its contract.
use Rattle.definition.specs.Ways.{branch}
use Rattle.ways.proofs.branch.Goals as goal

pub returns-then-eq : goal.returns-then-eq
unfolding branch
returns-then-eq c = rw (← c.eq.ensures, c.if-eq.true)

pub returns-then-eq-2 : goal.returns-then-eq-2
unfolding branch
returns-then-eq-2 c = rw (← c.eq.ensures, c.if-eq.false, ← c.eq-2.ensures, c.if-eq-2.true)

pub returns : goal.returns
unfolding branch
returns c = rw (← c.eq.ensures, c.if-eq.false, ← c.eq-2.ensures, c.if-eq-2.false)
