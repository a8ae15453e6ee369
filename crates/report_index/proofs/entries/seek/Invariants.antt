use Prim.Native.Nat.{◌-◌}
use Rattle.report_index.proofs.entries.Laws.{Between}
use Rattle.report_index.proofs.entries.seek.Given as goal

abbrev pub invariant-loop-low : goal.invariant-loop-low
invariant-loop-low l = Between l.index l.n l.chunk l.instruction l.low l.high

abbrev pub decreases-loop-low : goal.decreases-loop-low
decreases-loop-low l = l.high - l.low
