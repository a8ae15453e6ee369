-- What the parts of one way say: whether it is cut, the local that it narrows, how its target is queued, and where it may be taken.
use Rattle.std.specs.Prelude.{ℕ, ◌+◌, ◌*◌, ◌-◌, ◌<◌, ◌≤◌, ◌≡◌, ◌⊎◌, Bool, false, not, List, length, get_or, Option, Some, None, Result, Ok, Err}
use Rattle.masks.specs.Mask.{has}
use Rattle.masks.specs.Names.{ENUM}
use Rattle.ring.specs.declared.Queue.{Queue}
use Rattle.ring.specs.Ring.{pushed, grown}
use Rattle.ring.specs.Ring.{QueueReady}
use Rattle.definition.specs.Module.{module_of}
use Rattle.definition.specs.Outputs.{no_cell}
use Rattle.form_laws.specs.Good.{chunk_no, row_cells, words_of}
use Rattle.layout.specs.declared.Chunk.{Chunk}
use Rattle.layout.specs.declared.Tables.{Tables}
use Rattle.layout.specs.Layout.{row_at}
use Rattle.layout.specs.Indexed.{tables_of, chunk_at}
use Rattle.row_join.specs.places.Arrive.{no_local}
use Rattle.row_join.specs.declared.joining.Leaving.{Leaving}
use Rattle.row_join.specs.declared.joining.Way.{Way}
use Rattle.row_join.specs.joining.Leave.{JoinReady}
use Rattle.visit.specs.declared.RowVisit.{RowVisit}
use Rattle.visit.specs.Held.{Looking}
use Rattle.run_state.specs.Course.{Low, Queued}
use Rattle.propagate.specs.Passing.{LeavesInRow, locals_of}

-- the receiver may be an enum
abbrev pub may_be : List ℕ → Chunk → RowVisit → ℕ → Bool
may_be ws ch v r = has (get_or (locals_of ws ch v) r no_cell).mask ENUM

abbrev pub cut_in : List ℕ → Chunk → RowVisit → Option ℕ → Bool
cut_in ws ch v None = false
cut_in ws ch v (Some r) = not (may_be ws ch v r)

abbrev pub local_on : Option ℕ → ℕ
local_on None = no_local
local_on (Some r) = r

-- the queue stands in the words behind W
abbrev pub QueueStands : List ℕ → Tables → Queue → Type 0
QueueStands ws t q = QueueReady ws t.queue_at q

unfoldable pub Enqueued : List ℕ → List ℕ → ℕ → Queue → ℕ → Result Queue ℕ → Type 0
Enqueued ws u base q to (Ok r) = (q.count < length ws - base) × (u ≡ pushed ws base q to) × (r ≡ grown q)
Enqueued ws u base q to (Err n) = (length ws - base ≤ q.count) × (u ≡ ws) × (n ≡ 8)

abbrev pub EnqueuedIn : List ℕ → List ℕ → Tables → Queue → ℕ → Result Queue ℕ → Type 0
EnqueuedIn ws u t q to r = Enqueued ws u t.queue_at q to r

-- the way to the row at p
abbrev pub way_at : RowVisit → ℕ → ℕ → Way
way_at v p narrow = record { from = v.row; to = p; start = v.start; narrow = narrow }

-- where one way may be taken
pub record Open (ws : List ℕ) (t : Tables) (ch : Chunk) (v : RowVisit) (l : Leaving) (q : Queue) (to narrow : ℕ) : Type 0 where
  pub leave : JoinReady ws ch (way_at v (ch.rows + to * ch.size) narrow) l
  pub queue : QueueStands ws t q
  pub small : to < 4294967296

-- what every way is taken with
pub record PassReady (s ws : List ℕ) (t : Tables) (ch : Chunk) (v : RowVisit) (l : Leaving) (q : Queue) : Type 0 where
  pub looking : Looking s ws v
  pub tables : t ≡ tables_of s
  pub chunk : ch ≡ chunk_at s ws v.chunk
  pub low : Low s ws v.chunk
  pub queued : Queued s ws v.chunk q
  pub leaves : LeavesInRow ch v l

-- below the queue, no word is written but those of the row of `to`
unfoldable pub Beside : List ℕ → RowVisit → ℕ → List ℕ → List ℕ → Type 0
Beside s v to ws u =
    (j : ℕ) → j < words_of (module_of s)
    → (j < row_at (module_of s) v.chunk to) ⊎ (row_at (module_of s) v.chunk to + 16 * row_cells (chunk_no (module_of s) v.chunk) ≤ j)
    → get_or u j 0 ≡ get_or ws j 0
