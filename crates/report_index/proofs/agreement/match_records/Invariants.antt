use Prim.Native.Nat.{◌-◌, ◌≤◌}
use mathlib.Core.Path.{◌≡◌}
use lib.ListN.{length}
use Rattle.report_index.specs.Index.{entries_no}
use Rattle.report_index.proofs.agreement.Laws.{Tallied}
use Rattle.report_index.proofs.agreement.match_records.Given as goal

abbrev pub invariant-loop-at : goal.invariant-loop-at
invariant-loop-at l = (l.m ≡ length l.report) × (l.at ≤ l.m) × (l.records ≤ l.at) × Tallied l.report (entries_no l.index 0 l.n) l.at l.records

abbrev pub decreases-loop-at : goal.decreases-loop-at
decreases-loop-at l = l.m - l.at
