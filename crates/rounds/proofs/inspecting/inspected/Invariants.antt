use Rattle.rounds.proofs.inspecting.Fault.{FaultFrom}
use Rattle.rounds.proofs.inspecting.inspected.Given as goal

abbrev pub invariant-loop-i : goal.invariant-loop-i
invariant-loop-i l = FaultFrom l.s l.ws l.c l.i
