use Rattle.rounds.specs.entering.Rows.{Filled}
use Rattle.rounds.proofs.entering.first_locals.Given as goal

abbrev pub invariant-loop-i : goal.invariant-loop-i
invariant-loop-i l = Filled l.ch l.i l.initial.ws l.ws
