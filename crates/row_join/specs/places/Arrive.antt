-- Cells that arrive at the places of a row, one behind another: what they are, and what the code of `places` shows of them.
use Rattle.std.specs.Prelude.{ℕ, ◌+◌, ◌*◌, ◌≤◌, ◌≡◌, Bool, true, false, not, cond, ◌&&◌, ◌||◌, ◌⊎◌, List, eqb, ltb, length}
use Rattle.cells.specs.declared.Cell.{Cell}
use Rattle.cells.specs.declared.JoinedCell.{JoinedCell}
use Rattle.cells.specs.Cell.{joined_cell, invalidated_cell}
use Rattle.definition.specs.State.{join_cells, same_cells}
use Rattle.definition.specs.Ways.{narrow_stack}
use Rattle.words.specs.Layout.{plain_at}
use Rattle.words.specs.Rows.{cells_at, Outside}

-- no local
abbrev pub no_local : ℕ
no_local = 65535

-- a kept stack cell: the local that is set is forgotten; a cell that came from the local narrowed is narrowed with it
unfoldable pub kept_cell : ℕ → ℕ → Cell → Cell
kept_cell forget narrow c = cond (eqb forget no_local) (cond (eqb narrow no_local) c (narrow_stack narrow c)) (invalidated_cell c forget)

-- words that leave as they are: nothing is forgotten or narrowed, or nothing in them names a local
abbrev pub untouched_at : List ℕ → ℕ → ℕ → ℕ → Bool
untouched_at w from forget narrow = (eqb forget no_local && eqb narrow no_local) || plain_at w from

-- cells that arrive where others stand, or at a fresh row
unfoldable pub arrive : Bool → List Cell → List Cell → List Cell
arrive true olds news = news
arrive false olds news = join_cells olds news

unfoldable pub moves : Bool → List Cell → List Cell → Bool
moves true olds news = ltb 0 (length news)
moves false olds news = not (same_cells olds (join_cells olds news))

-- one cell
abbrev pub met_cell : Bool → Cell → Cell → JoinedCell
met_cell true old new = record { cell = new; changed = true }
met_cell false old new = joined_cell old new

-- n places to read and n to write; none is read after it was written
pub record PlacesApart (w : List ℕ) (from to n : ℕ) : Type 0 where
  pub source : from + 16 * n ≤ length w
  pub target : to + 16 * n ≤ length w
  pub apart : (to ≤ from) ⊎ (from + 16 * n ≤ to)

-- n cells arrived at these places, and nothing else has changed; b says whether they changed
pub record Arrived (fresh : Bool) (to n : ℕ) (news : List Cell) (w v : List ℕ) (b : Bool) : Type 0 where
  pub count : length news ≡ n
  pub cells : cells_at v to n ≡ arrive fresh (cells_at w to n) news
  pub changed : b ≡ moves fresh (cells_at w to n) news
  pub out : Outside to (to + 16 * n) w v
