use Rattle.report_index.proofs.entries.Laws.{Climbing}
use Rattle.report_index.proofs.agreement.rise.Given as goal

abbrev pub invariant-loop-k : goal.invariant-loop-k
invariant-loop-k l = Climbing l.index l.k
