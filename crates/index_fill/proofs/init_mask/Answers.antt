use Rattle.definition.specs.Module.{init_of}
use Rattle.index_fill.proofs.init_mask.Goals as goal

pub returns : goal.returns
unfolding init_of
returns c = cc
