-- What passes along the ways of a visit, read off its row, and what the machine makes of it.
use Rattle.std.specs.Prelude.{ℕ, ◌≤◌, ◌≡◌, false, cond, List, [], ◌∷◌, get_or, Result, Ok, Err}
use Rattle.std.proofs.Math.Option.{Option, none, some}
use Rattle.masks.specs.Mask.{has}
use Rattle.masks.specs.Names.{ENUM}
use Rattle.cells.specs.declared.Cell.{Cell}
use Rattle.words.specs.Rows.{cells_at}
use Rattle.ring.specs.declared.Queue.{Queue}
use Rattle.ops.specs.declared.Exit.{Exit}
use Rattle.definition.specs.Res.{ok, bad}
use Rattle.definition.specs.Machine.{puts}
use Rattle.definition.specs.State.{State, join}
use Rattle.definition.specs.Outputs.{no_cell}
use Rattle.definition.specs.Ways.{exit_of, ways_of, narrowing, on_way}
use Rattle.layout.specs.declared.Chunk.{Chunk}
use Rattle.row_join.specs.places.Arrive.{no_local}
use Rattle.row_join.specs.declared.joining.Leaving.{Leaving}
use Rattle.row_join.specs.joining.Leave.{leaves_as}
use Rattle.visit.specs.declared.RowVisit.{RowVisit}
use Rattle.visit.specs.Held.{args_in}
use Rattle.run_state.specs.Course.{room_in, work_in, Low, Queued, RowsOnly}
use Rattle.layout.specs.Layout.{locals_at}

-- what leaves keeps to the places of a row
pub record LeavesInRow (ch : Chunk) (v : RowVisit) (l : Leaving) : Type 0 where
  pub height : l.height ≤ ch.stack
  pub above : l.resets ≡ false → v.start ≤ l.height

-- the locals of the row
abbrev pub locals_of : List ℕ → Chunk → RowVisit → List Cell
locals_of ws ch v = cells_at ws (locals_at v.row ch.stack) ch.locals

-- the state that leaves, with this local narrowed, or none
unfoldable pub leaves_with : List ℕ → Chunk → RowVisit → Leaving → ℕ → State
leaves_with ws ch v l narrow = leaves_as ws ch (record { from = v.row; to = v.row; start = v.start; narrow = narrow }) l

-- none where the receiver can't be an enum, so the way is cut
unfoldable pub along_in : List ℕ → Chunk → RowVisit → Leaving → Option ℕ → Option State
along_in ws ch v l none = some (leaves_with ws ch v l no_local)
along_in ws ch v l (some r) = cond (has (get_or (locals_of ws ch v) r no_cell).mask ENUM) (some (leaves_with ws ch v l r)) none

-- the first operand decides
abbrev pub condition : List ℕ → RowVisit → Cell
condition ws v = get_or (args_in ws v) 0 no_cell

-- how control leaves the visit
abbrev pub exit_in : RowVisit → Exit
exit_in v = exit_of v.rule.exit v.at v.ins.a

-- the local that is narrowed on the way to `to`, as the row has the condition
abbrev pub narrowed_in : List ℕ → RowVisit → ℕ → Option ℕ
narrowed_in ws v to = narrowing (exit_in v) (condition ws v).flow.predicate v.ins.a to

-- what passes to `to`
unfoldable pub passes : List ℕ → Chunk → RowVisit → Leaving → ℕ → List (ℕ × State)
passes ws ch v l to = on_way to (along_in ws ch v l (narrowed_in ws v to)) []

unfoldable pub passes_all : List ℕ → Chunk → RowVisit → Leaving → List ℕ → List (ℕ × State)
passes_all ws ch v l [] = []
passes_all ws ch v l (to ∷ tos) =
    on_way to (along_in ws ch v l (narrowed_in ws v to)) (passes_all ws ch v l tos)

-- along all ways
unfoldable pub ways_in : List ℕ → Chunk → RowVisit → Leaving → List (ℕ × State)
ways_in ws ch v l = passes_all ws ch v l (ways_of (exit_in v) v.at v.ins.a (condition ws v).mask)

-- what has passed is what the machine puts; only rows of the chunk and the queue are written
unfoldable pub Passed : List ℕ → List ℕ → List ℕ → RowVisit → Queue → List (ℕ × State) → Result Queue ℕ → Type 0
Passed s ws u v q os (Ok r) =
    (puts join (room_in s ws) (work_in s ws v.chunk q) os ≡ ok (work_in s u v.chunk r))
    × RowsOnly s v.chunk ws u
    × Low s u v.chunk
    × Queued s u v.chunk r
Passed s ws u v q os (Err n) = puts join (room_in s ws) (work_in s ws v.chunk q) os ≡ bad n
