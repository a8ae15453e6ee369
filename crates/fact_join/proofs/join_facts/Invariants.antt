use mathlib.Core.List.{map}
use mathlib.Core.Bool.{false}
use Rattle.row_join.specs.places.Arrive.{Arrived}
use Rattle.words.specs.Rows.{cells_at}
use Rattle.cells.specs.Cell.{bare_cell}
use Rattle.fact_join.proofs.join_facts.Given as goal

abbrev pub invariant-loop-k : goal.invariant-loop-k
invariant-loop-k l = Arrived false l.to l.k (map bare_cell (cells_at l.initial.ws l.from l.k)) l.initial.ws l.ws l.moved
