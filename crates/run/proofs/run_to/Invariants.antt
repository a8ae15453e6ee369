use Rattle.run.proofs.Ways.{OnRun}
use Prim.Native.Nat.{◌-◌}
use Rattle.run.proofs.run_to.Given as goal

abbrev pub invariant-loop-r : goal.invariant-loop-r
invariant-loop-r l = OnRun l.s l.initial.ws l.ws l.initial.r l.limit l.r

abbrev pub decreases-loop-r : goal.decreases-loop-r
decreases-loop-r l = l.limit - l.r.steps
