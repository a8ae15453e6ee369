use Prim.Native.Nat.{◌-◌, ◌≤◌}
use mathlib.Core.Path.{◌≡◌}
use Rattle.packing.specs.Packing.{packed_from, packed_extent}
use Rattle.visit.specs.Held.{args_in}
use Rattle.visit.proofs.operands.Turns.{rest_in}
use Rattle.visit.proofs.operands.packed_at.Given as goal

abbrev pub invariant-loop-p : goal.invariant-loop-p
invariant-loop-p l = (packed_from l.sum (rest_in l.ws l.v l.p) l.float l.handle ≡ packed_extent (args_in l.ws l.v) l.float l.handle)
