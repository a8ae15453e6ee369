-- What a workspace holds between two takings, as the definition's values: facts, states, and the visit of an instruction.
use Rattle.std.specs.Prelude.{ℕ, ◌+◌, ◌-◌, ◌%◌, ◌<◌, ◌≤◌, ◌≡◌, Bool, List, length, get_or}
use Rattle.masks.specs.declared.Mask.{Mask}
use Rattle.masks.specs.Mask.{of}
use Rattle.cells.specs.declared.Cell.{Cell}
use Rattle.ops.specs.Ops.{rule_of}
use Rattle.words.specs.Layout.{cell_at}
use Rattle.words.specs.Rows.{cells_at}
use Rattle.definition.specs.Bounds.{most_stack}
use Rattle.definition.specs.Module.{row, module_of}
use Rattle.definition.specs.State.{State, Facts, Live}
use Rattle.definition.specs.Outputs.{Visit}
use Rattle.definition.specs.Leaves.{Known, visit_of, line_at}
use Rattle.form_laws.specs.Good.{chunk_no}
use Rattle.layout.specs.Layout.{slot_at, input_at, result_at, row_at, locals_at, place_at, stack_at}
use Rattle.layout.specs.declared.Tables.{Tables}
use Rattle.layout.specs.declared.Chunk.{Chunk as ChunkNumbers}
use Rattle.layout.specs.Indexed.{Indexed, tables_of, chunk_place, chunk_at, suspends_at}
use Rattle.visit.specs.declared.RowVisit.{RowVisit}

-- the facts: a chunk's inputs and result, and of each slot the private mask and flow
unfoldable pub facts_in : List ℕ → List ℕ → Facts
facts_in s ws =
    record {
      inputs = row (λ n. cells_at ws (input_at (module_of s) n 0) (length (chunk_no (module_of s) n).params)) 0 (module_of s).signatures;
      results = row (λ n. cell_at ws (result_at (module_of s) n)) 0 (module_of s).signatures;
      masks = row (λ n. (cell_at ws (slot_at (module_of s) n)).mask) 0 (module_of s).slots;
      flows = row (λ n. (cell_at ws (slot_at (module_of s) n)).flow) 0 (module_of s).slots;
    }

-- this round's writes stand below the mark of a placement
unfoldable pub writes_in : List ℕ → List ℕ → List Mask
writes_in s ws = row (λ n. of (get_or ws (slot_at (module_of s) n + 15) 0 % 65536)) 0 (module_of s).slots

unfoldable pub live_in : List ℕ → List ℕ → Bool → Live
live_in s ws changed = record { known = facts_in s ws; writes = writes_in s ws; changed = changed }

unfoldable pub known_in : List ℕ → List ℕ → Known
known_in s ws =
    record { code = module_of s; suspends = row (suspends_at ws) 0 (length (module_of s).chunks); reply = cell_at ws 0 }

-- a visit as the code has it: its chunk and instruction, where its row stands, the heights
pub record Looking (s ws : List ℕ) (v : RowVisit) : Type 0 where
  pub indexed : Indexed s ws
  pub chunk : v.chunk < length (module_of s).chunks
  pub at : v.at < length (chunk_no (module_of s) v.chunk).code
  pub row : v.row ≡ row_at (module_of s) v.chunk v.at
  pub height : get_or ws (row_at (module_of s) v.chunk v.at) 0 ≡ v.height + 1
  pub low : v.height ≤ (chunk_no (module_of s) v.chunk).stack
  pub ins : v.ins ≡ (line_at (chunk_no (module_of s) v.chunk) v.at).instr
  pub rule : v.rule ≡ rule_of v.ins.op
  pub field : v.field ≡ get_or (chunk_place s v.chunk).code v.at 0
  pub start : v.start ≡ v.height - v.ins.taken

-- what the functions of a visit are given: the tables, the numbers of its chunk, and the visit
pub record Visiting (s ws : List ℕ) (t : Tables) (ch : ChunkNumbers) (v : RowVisit) : Type 0 where
  pub looking : Looking s ws v
  pub tables : t ≡ tables_of s
  pub chunk : ch ≡ chunk_at s ws v.chunk

-- the operands, read off the row; what the functions on a row alone ask
unfoldable pub args_in : List ℕ → RowVisit → List Cell
args_in ws v = cells_at ws (place_at v.row v.start) (v.height - v.start)

pub record Standing (ws : List ℕ) (v : RowVisit) : Type 0 where
  pub room : place_at v.row v.height ≤ length ws
  pub start : v.start ≤ v.height
  pub low : v.height ≤ most_stack

-- the state of the row
unfoldable pub state_of : List ℕ → List ℕ → RowVisit → State
state_of s ws v =
    record {
      stack = cells_at ws (stack_at v.row) v.height;
      locals = cells_at ws (locals_at v.row (chunk_no (module_of s) v.chunk).stack) (chunk_no (module_of s) v.chunk).locals;
    }

-- the definition's visit
unfoldable pub visit_in : List ℕ → List ℕ → RowVisit → Visit
visit_in s ws v =
    visit_of (known_in s ws) (chunk_no (module_of s) v.chunk) (facts_in s ws) v.at (state_of s ws v)
