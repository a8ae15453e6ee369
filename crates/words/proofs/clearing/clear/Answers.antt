use Rattle.std.proofs.Common.{rules}
use Rattle.words.specs.clearing.Clearing.{cleared}
use Rattle.words.proofs.clearing.clear.Goals as goal

pub returns : goal.returns
unfolding cleared
returns c = rw (c.fill.ensures.after (λ y e. e)) (search rules)
