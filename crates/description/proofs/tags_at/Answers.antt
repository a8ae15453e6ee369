-- `description::tags_at` meets its contract.
use mathlib.Core.Path.{refl}
use Rattle.description.specs.Fields.{tags_at}
use Rattle.description.proofs.tags_at.Goals as goal

pub returns : goal.returns
unfolding tags_at
returns c = refl
