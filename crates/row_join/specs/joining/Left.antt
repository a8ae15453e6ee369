-- A state that has arrived in a row, and the cells after a reset.
use Rattle.std.specs.Prelude.{ℕ, zero, suc, ◌+◌, ◌≡◌, Bool, cond, ◌||◌, List, length}
use Rattle.cells.specs.declared.Cell.{Cell}
use Rattle.cells.specs.Cell.{unit_cell}
use Rattle.definition.specs.State.{State}
use Rattle.layout.specs.declared.Chunk.{Chunk}
use Rattle.words.specs.Rows.{cells_at, Outside}
use Rattle.row_join.specs.places.Arrive.{arrive, moves}
use Rattle.row_join.specs.joining.Leave.{row_words}
use Rattle.row_join.specs.declared.joining.Met.{Met}
use Rattle.row_join.specs.declared.joining.Met.TheVariants.{Same, Changed}
use Rattle.layout.specs.Layout.{locals_at, stack_at}

-- a state arrived in a row, whose stack has h places
pub record Left (fresh : Bool) (ch : Chunk) (to h : ℕ) (x : State) (w v : List ℕ) (b : Bool) : Type 0 where
  pub high : length x.stack ≡ h
  pub stack : cells_at v (stack_at to) h ≡ arrive fresh (cells_at w (stack_at to) h) x.stack
  pub locals : cells_at v (locals_at to ch.stack) ch.locals ≡ arrive fresh (cells_at w (locals_at to ch.stack) ch.locals) x.locals
  pub changed : b ≡ moves fresh (cells_at w (stack_at to) h) x.stack || moves fresh (cells_at w (locals_at to ch.stack) ch.locals) x.locals
  pub out : Outside (stack_at to) (to + row_words ch) w v

-- after a reset, by number
unfoldable pub reset_at : Bool → Cell → ℕ → Cell
reset_at streams reply zero = cond streams reply unit_cell
reset_at streams reply (suc k) = unit_cell

-- the answer of the code
abbrev pub how_of : Bool → Met
how_of b = cond b Changed Same
