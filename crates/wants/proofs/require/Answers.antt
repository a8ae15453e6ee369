-- `wants::require` meets its contract.
use Rattle.definition.specs.Wants.{require}
use Rattle.wants.proofs.require.Goals as goal

pub returns-then-actual-within : goal.returns-then-actual-within
unfolding require
returns-then-actual-within c = rw (← c.within.ensures, c.if-actual-within.true)

pub returns-then-narrowed-within : goal.returns-then-narrowed-within
unfolding require
returns-then-narrowed-within c = let t = rw c.common-narrowed.ensures at c.if-narrowed-within.true in rw (c.common-narrowed.ensures, ← c.within.ensures, c.if-actual-within.false, ← c.within-2.ensures, t)

pub returns : goal.returns
unfolding require
returns c = let t = rw c.common-narrowed.ensures at c.if-narrowed-within.false in rw (← c.within.ensures, c.if-actual-within.false, ← c.within-2.ensures, t)
