-- `le::u32_inside` meets its contract.
use Rattle.le.specs.Le.{at8, at32}
use borrow.Author.Rules.{rules}
use Rattle.le.proofs.u32_inside.Goals as goal

pub returns : goal.returns
unfolding at32 at8
returns c = search rules
