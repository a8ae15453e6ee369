-- The rows that a chunk begins with: each without a state, then the locals of the first.
use Rattle.std.specs.Prelude.{ℕ, zero, ◌+◌, ◌*◌, ◌<◌, ◌≤◌, ◌^◌, ◌≡◌, cond, List, ltb, length, get_or}
use Rattle.cells.specs.declared.Cell.{Cell}
use Rattle.cells.specs.Cell.{unit_cell}
use Rattle.words.specs.Layout.{cell_at}
use Rattle.words.specs.Rows.{Outside}
use Rattle.layout.specs.declared.Chunk.{Chunk}
use Rattle.layout.specs.Layout.{local_at}

-- ---- no row has a state
pub record RowsThere (ws : List ℕ) (ch : Chunk) : Type 0 where
  pub room : (i : ℕ) → i < ch.count → ch.rows + i * ch.size < length ws
  pub small : (i : ℕ) → i < ch.count → ch.rows + i * ch.size < 2 ^ 63

-- the first n
pub record Cleared (ch : Chunk) (n : ℕ) (ws v : List ℕ) : Type 0 where
  pub long : length v ≡ length ws
  pub zero : (i : ℕ) → i < n → get_or v (ch.rows + i * ch.size) 0 ≡ 0
  pub other : (j : ℕ) → ((i : ℕ) → i < n → j ≡ ch.rows + i * ch.size → ⊥) → get_or v j 0 ≡ get_or ws j 0

-- ---- the locals of the first row: the chunk's inputs, then Unit
pub record LocalsThere (ws : List ℕ) (ch : Chunk) : Type 0 where
  pub room : local_at ch.rows ch.stack ch.locals ≤ length ws
  pub small : local_at ch.rows ch.stack ch.locals < 2 ^ 63
  pub inputs : ch.inputs + 16 * ch.params ≤ ch.rows

abbrev pub first_cell : List ℕ → Chunk → ℕ → Cell
first_cell ws ch k = cond (ltb k ch.params) (cell_at ws (ch.inputs + 16 * k)) unit_cell

-- one of them
pub record FilledAt (ch : Chunk) (i : ℕ) (ws v : List ℕ) : Type 0 where
  pub out : Outside (local_at ch.rows ch.stack i) (local_at ch.rows ch.stack i + 15) ws v
  pub cell : cell_at v (local_at ch.rows ch.stack i) ≡ first_cell ws ch i

-- the first n
pub record Filled (ch : Chunk) (n : ℕ) (ws v : List ℕ) : Type 0 where
  pub out : Outside (local_at ch.rows ch.stack 0) (local_at ch.rows ch.stack n) ws v
  pub cell : (k : ℕ) → k < n → cell_at v (local_at ch.rows ch.stack k) ≡ first_cell ws ch k
