use Rattle.le.specs.Wrote.{Wrote}
use Rattle.report_size.specs.Span.{span}
use Rattle.report_size.specs.Adds.{added_for}
use Rattle.report_write.proofs.put_chunk.Given as goal

abbrev pub invariant-loop-i : goal.invariant-loop-i
invariant-loop-i l = Wrote l.initial.buf l.at (span (added_for l.s l.ws l.tag l.c) 0 l.i) l.buf l.to
