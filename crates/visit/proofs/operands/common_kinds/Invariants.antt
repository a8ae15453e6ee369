use Prim.Native.Nat.{◌-◌, ◌≤◌}
use mathlib.Core.Path.{◌≡◌}
use Rattle.masks.specs.Mask.{of}
use Rattle.definition.specs.Outputs.{common_kinds}
use Rattle.visit.specs.Held.{args_in}
use Rattle.visit.proofs.operands.Turns.{rest_in}
use Rattle.visit.proofs.operands.common_kinds.Given as goal

abbrev pub invariant-loop-p : goal.invariant-loop-p
invariant-loop-p l = (common_kinds l.m (rest_in l.ws l.v l.p) ≡ common_kinds (of 65535) (args_in l.ws l.v))
