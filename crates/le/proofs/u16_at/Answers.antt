-- `le::u16_at` meets its contract.
use Rattle.le.specs.Le.{at16}
use borrow.Author.Rules.{rules}
use Rattle.le.proofs.u16_at.Goals as goal

pub returns : goal.returns
unfolding at16
returns c = search rules
