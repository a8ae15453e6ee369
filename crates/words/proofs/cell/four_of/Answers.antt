use borrow.Author.Rules.{rules}
use Rattle.words.proofs.cell.four_of.Goals as goal

pub returns : goal.returns
returns c = (cc, search rules)
