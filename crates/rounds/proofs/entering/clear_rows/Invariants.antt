use Rattle.rounds.specs.entering.Rows.{Cleared}
use Rattle.rounds.proofs.entering.clear_rows.Given as goal

abbrev pub invariant-loop-i : goal.invariant-loop-i
invariant-loop-i l = Cleared l.ch l.i l.initial.ws l.ws
