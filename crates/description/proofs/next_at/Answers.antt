-- `description::next_at` meets its contract.
use Rattle.description.specs.Fields.{next_at}
use borrow.Author.Rules.{rules}
use Rattle.description.proofs.next_at.Goals as goal

pub returns : goal.returns
unfolding next_at
returns c = search rules
