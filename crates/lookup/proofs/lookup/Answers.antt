-- `lookup::lookup` meets its contract.
use mathlib.Core.Path.{refl}
use native.Mathlib.Omega.{arith}
use native.Mathlib.Nat.{add-sub_cancel_left}
use Rattle.lookup.specs.Find.{part}
use Rattle.lookup.proofs.lookup.Goals as goal

pub returns : goal.returns
unfolding part
returns c = rw (← c.part_of-part.ensures.same) (record { block = refl; place = omega arith; bytes = rw add-sub_cancel_left })
