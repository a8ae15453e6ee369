use Rattle.le.specs.Wrote.{Wrote}
use Rattle.report_size.specs.Span.{span}
use Rattle.report_size.specs.Adds.{signature_at}
use Rattle.report_write.proofs.put_signatures.Given as goal

abbrev pub invariant-loop-c : goal.invariant-loop-c
invariant-loop-c l = Wrote l.initial.buf l.at (span (signature_at l.s l.ws) 0 l.c) l.buf l.to
