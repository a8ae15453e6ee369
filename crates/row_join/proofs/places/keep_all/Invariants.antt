use Rattle.row_join.specs.places.Arrive.{Arrived, kept_cell}
use Rattle.words.specs.Rows.{cells_at}
use mathlib.Core.List.{map}
use mathlib.Core.Path.{◌≡◌}
use Prim.Native.Nat.{◌≤◌, ◌-◌}
use lib.ListN.{length}
use Rattle.row_join.proofs.places.keep_all.Given as goal

abbrev pub invariant-loop-p : goal.invariant-loop-p
invariant-loop-p l = Arrived l.fresh l.to l.p (map (kept_cell l.forget l.narrow) (cells_at l.initial.ws l.from l.p)) l.initial.ws l.ws l.changed
