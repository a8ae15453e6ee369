use Rattle.start.proofs.suspending.Looks.{Looking}
use Rattle.start.proofs.suspending.suspend_more.Given as goal

abbrev pub invariant-loop-c : goal.invariant-loop-c
invariant-loop-c l = Looking l.s l.initial.ws l.ws l.c l.changed
