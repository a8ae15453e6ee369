-- `listing::end_at` meets its contract.
use Rattle.description.specs.Fields.{next_at, len_at}
use borrow.Author.Rules.{rules}
use Rattle.listing.proofs.end_at.Goals as goal

pub returns : goal.returns
unfolding next_at len_at
returns c = search rules
