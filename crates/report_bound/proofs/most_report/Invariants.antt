use Prim.Native.Nat.{◌-◌}
use mathlib.Core.Path.{◌≡◌}
use lib.ListN.{length}
use Rattle.description.specs.Fields.{header_of}
use Rattle.report_bound.proofs.Sums.{Summing}
use Rattle.report_bound.proofs.most_report.Given as goal

abbrev pub invariant-loop-p : goal.invariant-loop-p
invariant-loop-p l = (l.h ≡ header_of l.s 0) × Summing l.s l.p l.n l.w

abbrev pub decreases-loop-p : goal.decreases-loop-p
decreases-loop-p l = length l.s - l.p
