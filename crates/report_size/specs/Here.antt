-- An instruction of a reachable chunk after an accepted run: its row, and the visit of it.
use Rattle.std.specs.Prelude.{ℕ, ◌<◌, ◌≡◌, true, List, length}
use Rattle.definition.specs.Module.{module_of}
use Rattle.form_laws.specs.Good.{chunk_no}
use Rattle.layout.specs.declared.Tables.{Tables}
use Rattle.layout.specs.declared.Chunk.{Chunk as ChunkNumbers}
use Rattle.layout.specs.Indexed.{tables_of, chunk_at}
use Rattle.run_state.specs.Course.{Ended}
use Rattle.report_size.specs.Reporting.{Faultless}

-- what a report is made from
pub record Finished (s ws : List ℕ) (t : Tables) : Type 0 where
  pub ended : Ended s ws
  pub faultless : Faultless s ws
  pub tables : t ≡ tables_of s

-- the instruction i of a chunk c that is reachable
pub record Here (s ws : List ℕ) (c : ℕ) (ch : ChunkNumbers) (i : ℕ) : Type 0 where
  pub chunk : c < length (module_of s).chunks
  pub numbers : ch ≡ chunk_at s ws c
  pub reachable : (chunk_no (module_of s) c).reachable ≡ true
  pub at : i < ch.count
