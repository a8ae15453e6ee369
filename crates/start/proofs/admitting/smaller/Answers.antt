-- `start::admitting::smaller` meets its contract.
use mathlib.Core.Path.{refl}
use mathlib.Core.Logic.{inl, inr}
use native.Mathlib.Omega.{arith}
use Rattle.start.proofs.admitting.smaller.Goals as goal

pub returns-then-a-b : goal.returns-then-a-b
returns-then-a-b c = record { first = omega arith; second = omega arith; one = inl refl }

pub returns-else-a-b : goal.returns-else-a-b
returns-else-a-b c = record { first = omega arith; second = omega arith; one = inr refl }
