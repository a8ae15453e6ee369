use Rattle.fact_join.proofs.merging.Merge.{Merging}
use Rattle.fact_join.proofs.merging.merge_writes.Given as goal

abbrev pub invariant-loop-k : goal.invariant-loop-k
invariant-loop-k l = Merging l.s l.initial.ws l.ws l.k l.changed l.moved
