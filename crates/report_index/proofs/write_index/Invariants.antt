use Prim.Native.Nat.{◌-◌, ◌≤◌}
use mathlib.Core.Path.{◌≡◌}
use lib.ListN.{length}
use Rattle.lookup.specs.Find.{entries_in}
use Rattle.lookup.proofs.Turns.{entries_from}
use Rattle.report_index.specs.Index.{index_bytes}
use Rattle.report_index.proofs.Wrote.{Left}
use Rattle.report_index.proofs.write_index.Given as goal

abbrev pub invariant-loop-at : goal.invariant-loop-at
invariant-loop-at l =
    (l.n ≡ length l.report) × (l.at ≤ l.n) × Left l.initial.index (index_bytes (entries_in l.report)) (entries_from l.report l.at) l.index l.to

abbrev pub decreases-loop-at : goal.decreases-loop-at
decreases-loop-at l = l.n - l.at
