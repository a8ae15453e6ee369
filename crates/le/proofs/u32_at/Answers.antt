-- `le::u32_at` meets its contract.
use Rattle.le.specs.Le.{at32}
use borrow.Author.Rules.{rules}
use Rattle.le.proofs.u32_at.Goals as goal

pub returns : goal.returns
unfolding at32
returns c = search rules
