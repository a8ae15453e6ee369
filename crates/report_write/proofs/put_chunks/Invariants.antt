use Rattle.le.specs.Wrote.{Wrote}
use Rattle.report_size.specs.Span.{span}
use Rattle.report_size.specs.Adds.{chunk_for}
use Rattle.report_write.proofs.put_chunks.Given as goal

abbrev pub invariant-loop-c : goal.invariant-loop-c
invariant-loop-c l = Wrote l.initial.buf l.at (span (chunk_for l.s l.ws l.tag) 0 l.c) l.buf l.to
