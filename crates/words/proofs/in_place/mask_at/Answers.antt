use Rattle.words.specs.Layout.{cell_at, decode}
use borrow.Author.Rules.{rules}
use Rattle.words.proofs.in_place.mask_at.Goals as goal

pub returns : goal.returns
unfolding cell_at decode
returns c = search rules
