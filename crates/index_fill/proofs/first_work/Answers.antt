use Rattle.index_fill.specs.model.Model.{first_work}
use mathlib.Core.Path.{refl}
use Rattle.index_fill.proofs.first_work.Goals as goal

pub returns : goal.returns
unfolding first_work
returns c = refl
