-- `le::put8` meets its contract.
use mathlib.Core.Path.{refl}
use Rattle.le.specs.Wrote.{put}
use Rattle.le.proofs.put8.Goals as goal

pub returns : goal.returns
unfolding put
returns c = record { bytes = refl; size = refl; next = refl }
