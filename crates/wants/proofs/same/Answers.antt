-- `wants::same` meets its contract.
use Rattle.definition.specs.Wants.{same}
use Rattle.wants.proofs.same.Goals as goal

pub returns-then-one_kind : goal.returns-then-one_kind
unfolding same
returns-then-one_kind c = rw (← c.common-m.ensures, ← c.one_kind.ensures, c.if-one_kind.true) c.every.ensures

pub returns : goal.returns
unfolding same
returns c = rw (← c.common-m.ensures, ← c.one_kind.ensures, c.if-one_kind.false) c.never.ensures
