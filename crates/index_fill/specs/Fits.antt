-- What the functions of the walk ask: places that fit a word, and words that are there.
use Rattle.std.specs.Prelude.{ℕ, ◌+◌, ◌*◌, ◌<◌, ◌≤◌, ◌≡◌, List}
use Rattle.definition.specs.Bounds.{most_chunks, most_slots}
use Rattle.layout.specs.Layout.{numbers_at, row_field}
use Rattle.layout.specs.declared.Tables.{Tables}
use Rattle.layout.specs.declared.Chunk.{Chunk}
use Rattle.index_fill.specs.declared.model.FillState.{FillState}
use Rattle.index_fill.specs.model.Model.{areas, params_in}

-- the numbers of a chunk fit words
pub record Small (c : Chunk) : Type 0 where
  pub at : c.at < 4294967296
  pub rows : c.rows < 4294967296
  pub count : c.count < 4294967296
  pub locals : c.locals < 4294967296
  pub stack : c.stack < 4294967296
  pub inputs : c.inputs < 4294967296
  pub params : c.params < 4294967296

-- ---- n words are there, and what is written into them fits
pub record ForChunk (s : List ℕ) (p : ℕ) (t : Tables) (w : FillState) (n : ℕ) : Type 0 where
  pub place : p < 4294967296
  pub seen : w.seen < 4294967296
  pub numbers : numbers_at w.seen + 16 ≤ n
  pub rows : w.free + 16 * (params_in s p t w + 1) < 4294967296

pub record ForInstr (p : ℕ) (w : FillState) (n : ℕ) : Type 0 where
  pub place : p < 4294967296
  pub numbers : w.numbers + 16 ≤ n
  pub row : w.free + row_field < n
  pub next : w.free + w.size < 4294967296
  pub instrs : w.instrs + 1 < 4294967296

pub record ForCode (tag : ℕ) (s : List ℕ) (p : ℕ) (t : Tables) (w : FillState) (n : ℕ) : Type 0 where
  pub chunk : tag ≡ 2 → ForChunk s p t w n
  pub instr : tag ≡ 3 → ForInstr p w n
  pub site : w.numbers + 16 ≤ n

pub record ForSlots (t : Tables) (n : ℕ) : Type 0 where
  pub chunks : t.chunks ≤ most_chunks
  pub slots : t.slots ≤ most_slots
  pub shared : t.shared < 4294967296
  pub inits : t.inits < 4294967296
  pub words : areas t ≤ n
