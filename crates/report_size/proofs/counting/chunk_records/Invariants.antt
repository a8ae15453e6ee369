use Prim.Native.Nat.{◌≤◌}
use mathlib.Core.Path.{◌≡◌}
use lib.ListN.{length}
use Rattle.report_size.specs.Span.{span}
use Rattle.report_size.specs.counting.Marks.{mark_for}
use Rattle.report_size.proofs.counting.chunk_records.Given as goal

abbrev pub invariant-loop-i : goal.invariant-loop-i
invariant-loop-i l =
    (l.n ≡ length (span (mark_for l.s l.ws l.c) 0 l.i)) × (l.n ≤ l.i)
