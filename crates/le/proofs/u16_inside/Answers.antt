-- `le::u16_inside` meets its contract.
use Rattle.le.specs.Le.{at8, at16}
use borrow.Author.Rules.{rules}
use Rattle.le.proofs.u16_inside.Goals as goal

pub returns : goal.returns
unfolding at16 at8
returns c = search rules
