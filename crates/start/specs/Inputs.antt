-- The declared inputs and results, chunk by chunk.
use Rattle.std.specs.Prelude.{ℕ, ◌*◌, ◌<◌, ◌≡◌, List, length, get_or}
use Rattle.cells.specs.Cell.{declared}
use Rattle.words.specs.Layout.{cell_at}
use Rattle.words.specs.Rows.{cells_at, Outside}
use Rattle.definition.specs.Module.{module_of}
use Rattle.definition.specs.Start.{declared_params}
use Rattle.form_laws.specs.Good.{chunk_no, no_shape, words_of}
use Rattle.layout.specs.Layout.{area_of, input_at, result_at, rows_at}
use Rattle.layout.specs.Kept.{Steady}

-- ---- what is written
-- the first k inputs of the chunk c
pub record InputsIn (s ws v : List ℕ) (c k : ℕ) : Type 0 where
  pub outside : Outside (input_at (module_of s) c 0) (input_at (module_of s) c k) ws v
  pub cells : (j : ℕ) → j < k → cell_at v (input_at (module_of s) c j) ≡ declared (get_or (chunk_no (module_of s) c).params j no_shape) (module_of s).owns

-- the inputs and the result of the chunk c
pub record ChunkIn (s ws v : List ℕ) (c : ℕ) : Type 0 where
  pub outside : Outside (16 * area_of (module_of s) c) (rows_at (module_of s) c) ws v
  pub inputs : cells_at v (input_at (module_of s) c 0) (length (chunk_no (module_of s) c).params) ≡ declared_params (module_of s) (chunk_no (module_of s) c)
  pub result : cell_at v (result_at (module_of s) c) ≡ declared (chunk_no (module_of s) c).result (module_of s).owns

-- those of the chunks before c
pub record ChunksDeclared (s ws v : List ℕ) (c : ℕ) : Type 0 where
  pub steady : Steady (module_of s) ws v
  pub outside : Outside (16 * area_of (module_of s) 0) (words_of (module_of s)) ws v
  pub inputs : (n : ℕ) → n < c → cells_at v (input_at (module_of s) n 0) (length (chunk_no (module_of s) n).params) ≡ declared_params (module_of s) (chunk_no (module_of s) n)
  pub results : (n : ℕ) → n < c → cell_at v (result_at (module_of s) n) ≡ declared (chunk_no (module_of s) n).result (module_of s).owns
