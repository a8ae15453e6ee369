-- `le::u8_at` meets its contract.
use Rattle.le.specs.Le.{at8}
use mathlib.Core.Path.{sym}
use lib.ListN.{get_or-eq_default}
use borrow.Author.Rules.{rules}
use Rattle.le.proofs.u8_at.Goals as goal

pub returns-then-at-s : goal.returns-then-at-s
unfolding at8
returns-then-at-s c = search rules

pub returns-else-at-s : goal.returns-else-at-s
unfolding at8
returns-else-at-s c = sym (get_or-eq_default c.args.s.now 0 c.if-at-s.false)
