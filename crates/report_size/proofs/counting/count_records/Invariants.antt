use Prim.Native.Nat.{◌*◌, ◌≤◌}
use mathlib.Core.Path.{◌≡◌}
use lib.ListN.{length}
use Rattle.report_size.specs.Span.{span}
use Rattle.report_size.specs.counting.Marks.{marks_in}
use Rattle.report_size.proofs.counting.count_records.Given as goal

abbrev pub invariant-loop-c : goal.invariant-loop-c
invariant-loop-c l = (l.n ≡ length (span (marks_in l.s l.ws) 0 l.c)) × (l.n ≤ 4096 * l.c)
