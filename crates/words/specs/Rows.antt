-- Cells one behind another, and what a write leaves alone.
use Rattle.std.specs.Prelude.{ℕ, zero, suc, ◌+◌, ◌<◌, ◌≤◌, ◌≡◌, ◌⊎◌, List, [], ◌∷◌, length, get_or}
use Rattle.cells.specs.declared.Cell.{Cell}
use Rattle.words.specs.Layout.{cell_at}

-- n cells, the first at this word
unfoldable pub cells_at : List ℕ → ℕ → ℕ → List Cell
cells_at ws at zero = []
cells_at ws at (suc n) = cell_at ws at ∷ cells_at ws (at + 16) n

-- no word but those from a to b, less b itself, has changed
pub record Outside (a b : ℕ) (ws vs : List ℕ) : Type 0 where
  pub length : length vs ≡ length ws
  pub word : (j : ℕ) → (j < a) ⊎ (b ≤ j) → get_or vs j 0 ≡ get_or ws j 0
