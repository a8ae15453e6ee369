-- `checks::refusals::always_fault` meets its contract.
use Rattle.checks.proofs.refusals.Never.{always-by}
use Rattle.checks.proofs.refusals.always_fault.Goals as goal

pub returns-then-never_proven : goal.returns-then-never_proven
returns-then-never_proven c = rw (always-by _ _ _ c.requires.looking, ← c.never_proven.ensures, c.if-never_proven.true)

pub returns : goal.returns
returns c = rw (always-by _ _ _ c.requires.looking, ← c.never_proven.ensures, c.if-never_proven.false) c.data_fault.ensures
