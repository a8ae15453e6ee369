use Rattle.le.specs.Wrote.{Wrote}
use Rattle.report_size.specs.Span.{span}
use Rattle.report_write.specs.records.Writes.{slot_from}
use Rattle.report_write.proofs.put_slots.Given as goal

abbrev pub invariant-loop-k : goal.invariant-loop-k
invariant-loop-k l = Wrote l.initial.buf l.at (span (slot_from l.ws l.t.chunks) 0 l.k) l.buf l.to
