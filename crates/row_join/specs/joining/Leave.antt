-- What leaves an instruction along one way, and how it meets the state of its target.
use Rattle.std.specs.Prelude.{ℕ, zero, suc, ◌+◌, ◌*◌, ◌-◌, ◌<◌, ◌≤◌, ◌≡◌, ◌⊎◌, Bool, false, cond, List, ◌++◌, map, eqb, length, get_or, set}
use Rattle.std.proofs.Math.Option.{Option, none, some}
use Rattle.cells.specs.declared.Cell.{Cell}
use Rattle.cells.specs.Cell.{narrow_enum}
use Rattle.definition.specs.Bounds.{most_stack}
use Rattle.definition.specs.State.{State, join_states, same_states}
use Rattle.definition.specs.Ways.{output_list, reset_first}
use Rattle.definition.specs.Outputs.{no_cell}
use Rattle.layout.specs.declared.Chunk.{Chunk}
use Rattle.words.specs.Layout.{cell_at}
use Rattle.words.specs.Rows.{cells_at}
use Rattle.row_join.specs.places.Arrive.{no_local, kept_cell}
use Rattle.row_join.specs.declared.joining.Leaving.{Leaving}
use Rattle.row_join.specs.declared.joining.SetLocal.{SetLocal}
use Rattle.row_join.specs.declared.joining.Way.{Way}
use Rattle.row_join.specs.declared.joining.Met.{Met}
use Rattle.row_join.specs.declared.joining.Met.TheVariants.{Same, Changed, Unequal}
use Rattle.layout.specs.Layout.{locals_at, row_head, stack_at}

-- the locals as they leave: the one that is set or narrowed, the others without what names it
unfoldable pub kept_locals : SetLocal → ℕ → List Cell → List Cell
kept_locals x forget ls = set (map (kept_cell forget no_local) ls) x.local x.cell

unfoldable pub narrowed_local : ℕ → List Cell → SetLocal
narrowed_local r ls = record { local = r; cell = narrow_enum (get_or ls r no_cell) }

-- the stack as it leaves: what is below, then the outputs
unfoldable pub kept_stack : Leaving → ℕ → List Cell → List Cell
kept_stack l narrow below = map (kept_cell l.set.local narrow) below ++ output_list l.made (l.height - length below)

-- the local that is set, or the one that is narrowed
unfoldable pub set_on_way : SetLocal → ℕ → List Cell → SetLocal
set_on_way x narrow ls = cond (eqb narrow no_local) x (narrowed_local narrow ls)

-- the state that leaves
unfoldable pub leaves_kept : Leaving → ℕ → List Cell → List Cell → State
leaves_kept l narrow below ls =
    record {
      stack = kept_stack l narrow below;
      locals = kept_locals (set_on_way l.set narrow ls) l.set.local ls;
    }

unfoldable pub leaves_reset : Leaving → Bool → Cell → List Cell → State
leaves_reset l streams reply ls = record { stack = output_list l.made l.height; locals = reset_first streams reply ls }

-- read off the words
unfoldable pub leaves_as : List ℕ → Chunk → Way → Leaving → State
leaves_as ws ch w l =
    cond l.resets
    (leaves_reset l ch.streams (cell_at ws 0) (cells_at ws (locals_at w.from ch.stack) ch.locals))
    (leaves_kept l w.narrow (cells_at ws (stack_at w.from) w.start) (cells_at ws (locals_at w.from ch.stack) ch.locals))

-- the state of a row: 0 says that there is none, else the height of the stack is one less
unfoldable pub state_by : List ℕ → ℕ → ℕ → ℕ → ℕ → Option State
state_by ws row stack locals zero = none
state_by ws row stack locals (suc h) =
    some (record { stack = cells_at ws (stack_at row) h; locals = cells_at ws (locals_at row stack) locals })

unfoldable pub state_in : List ℕ → ℕ → ℕ → ℕ → Option State
state_in ws row stack locals = state_by ws row stack locals (get_or ws row 0)

-- how what comes meets what is there
unfoldable pub met_state : Option State → State → Option State
met_state none x = some x
met_state (some old) x = cond (eqb (length old.stack) (length x.stack)) (some (join_states old x)) (some old)

unfoldable pub met_how : Option State → State → Met
met_how none x = Changed
met_how (some old) x =
    cond (eqb (length old.stack) (length x.stack)) (cond (same_states old (join_states old x)) Same Changed) Unequal

-- the words of a row
abbrev pub row_words : Chunk → ℕ
row_words ch = row_head + 16 * (ch.stack + ch.locals)

-- a row without a state gets this height, another keeps its own
unfoldable pub met_word : ℕ → ℕ → ℕ
met_word zero height = suc height
met_word (suc h) height = suc h

-- both rows are there, one row or apart; what leaves has its places in them
pub record JoinReady (ws : List ℕ) (ch : Chunk) (w : Way) (l : Leaving) : Type 0 where
  pub from : w.from + row_words ch ≤ length ws
  pub to : w.to + row_words ch ≤ length ws
  pub apart : (w.from ≡ w.to) ⊎ ((w.from + row_words ch ≤ w.to) ⊎ (w.to + row_words ch ≤ w.from))
  pub height : l.height ≤ ch.stack
  pub above : l.resets ≡ false → w.start ≤ l.height
  pub stack : ch.stack ≤ most_stack
  pub narrow : (w.narrow ≡ no_local) ⊎ (w.narrow < ch.locals)
