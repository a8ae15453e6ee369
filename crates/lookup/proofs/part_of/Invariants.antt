use Prim.Native.Nat.{◌-◌, ◌≤◌}
use mathlib.Core.Path.{◌≡◌}
use lib.ListN.{length}
use Rattle.lookup.specs.Find.{found}
use Rattle.lookup.proofs.Turns.{found_from}
use Rattle.lookup.proofs.part_of.Given as goal

abbrev pub invariant-loop-at : goal.invariant-loop-at
invariant-loop-at l = (l.n ≡ length l.report) × (l.at ≤ l.n) × (found_from l.report l.chunk l.instruction l.at ≡ found l.report l.chunk l.instruction)

abbrev pub decreases-loop-at : goal.decreases-loop-at
decreases-loop-at l = l.n - l.at
