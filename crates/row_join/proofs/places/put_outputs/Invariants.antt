use Rattle.row_join.specs.places.Arrive.{Arrived}
use Rattle.definition.specs.Ways.{output_list}
use mathlib.Core.Path.{◌≡◌}
use Prim.Native.Nat.{◌≤◌, ◌-◌}
use lib.ListN.{length}
use Rattle.row_join.proofs.places.put_outputs.Given as goal

abbrev pub invariant-loop-k : goal.invariant-loop-k
invariant-loop-k l = Arrived l.fresh l.to l.k (output_list l.made l.k) l.initial.ws l.ws l.changed
