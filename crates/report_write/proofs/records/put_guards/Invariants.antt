use Prim.Native.Nat.{◌+◌}
use Rattle.le.specs.Wrote.{Wrote}
use Rattle.checks.specs.asked.Proving.{places_by}
use Rattle.report_size.specs.Span.{span}
use Rattle.report_write.proofs.records.Guards.{guard_at}
use Rattle.report_write.proofs.records.put_guards.Given as goal

abbrev pub invariant-loop-k : goal.invariant-loop-k
invariant-loop-k l =
    Wrote l.initial.buf l.at (span (guard_at l.s l.ws l.v l.want) (places_by l.v l.want.ask).from ((places_by l.v l.want.ask).from + l.k)) l.buf l.to
