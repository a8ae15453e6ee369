use Rattle.rounds.proofs.entering.Reach.{Skipped}
use Rattle.rounds.proofs.entering.next_reachable.Given as goal

abbrev pub invariant-loop-c : goal.invariant-loop-c
invariant-loop-c l = Skipped l.s l.from l.c
