use Prim.Native.Nat.{◌-◌}
use Rattle.start.proofs.suspending.Looks.{Left}
use Rattle.start.proofs.suspending.suspend_all.Given as goal

abbrev pub invariant-loop-look : goal.invariant-loop-look
invariant-loop-look l = Left l.s l.initial.ws l.ws (l.t.chunks - l.look)
