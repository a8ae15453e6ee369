use Rattle.row_join.specs.places.Arrive.{Arrived}
use Rattle.row_join.specs.joining.Left.{reset_at}
use Rattle.definition.specs.Module.{row}
use mathlib.Core.Path.{◌≡◌}
use Prim.Native.Nat.{◌≤◌, ◌-◌}
use lib.ListN.{length}
use Rattle.row_join.proofs.resetting.reset_locals.Given as goal

abbrev pub invariant-loop-k : goal.invariant-loop-k
invariant-loop-k l = Arrived l.fresh l.to l.k (row (reset_at l.streams l.reply) 0 l.k) l.initial.ws l.ws l.changed
