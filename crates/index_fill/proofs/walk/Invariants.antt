use Rattle.index_fill.proofs.Walking.{Going}
use lib.ListN.{length}
use Prim.Native.Nat.{◌-◌}
use Rattle.index_fill.proofs.walk.Given as goal

abbrev pub invariant-loop-at : goal.invariant-loop-at
invariant-loop-at l = Going l.s l.initial.ws l.queue l.keep l.ws l.t l.w l.at

abbrev pub decreases-loop-at : goal.decreases-loop-at
decreases-loop-at l = length l.s - l.at
