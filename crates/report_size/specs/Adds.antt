-- The report as bytes, chunk by chunk and instruction by instruction, from what stands in the workspace.
use Rattle.std.specs.Prelude.{ℕ, cond, List, [], ◌∷◌, eqb, length}
use Rattle.widths.specs.declared.Width.TheVariants.{Unknown as Wide}
use Rattle.cells.specs.declared.Cell.{Cell}
use Rattle.words.specs.Layout.{cell_at}
use Rattle.words.specs.Rows.{cells_at}
use Rattle.definition.specs.Module.{Chunk, module_of}
use Rattle.definition.specs.State.{State}
use Rattle.definition.specs.Report.{record_of, inspection_of, branch_of, from_state, signature_bytes, record_bytes, inspection_bytes, branch_bytes, each}
use Rattle.form_laws.specs.Good.{chunk_no}
use Rattle.layout.specs.Layout.{input_at, result_at}
use Rattle.visit.specs.Held.{facts_in}
use Rattle.run_state.specs.Course.{known_as, state_at}
use Rattle.report_size.specs.Span.{span}

-- ---- signatures and slots
unfoldable pub signature_at : List ℕ → List ℕ → ℕ → List ℕ
signature_at s ws n =
    signature_bytes
    (record {
      chunk = n;
      inputs = cells_at ws (input_at (module_of s) n 0) (length (chunk_no (module_of s) n).params);
      result = cell_at ws (result_at (module_of s) n);
    })

-- a private fact, its width unknown
abbrev pub bare_at : List ℕ → ℕ → Cell
bare_at ws p = record { mask = (cell_at ws p).mask; width = Wide; flow = (cell_at ws p).flow }

-- ---- what the instruction i of the chunk n adds
unfoldable pub added : {A : Type 0} → (A → List ℕ) → (Chunk → ℕ → State → List A) → List ℕ → List ℕ → ℕ → ℕ → List ℕ
added f g s ws n i = each f (from_state (g (chunk_no (module_of s) n)) i (state_at s n ws i))

unfoldable pub record_at : List ℕ → List ℕ → ℕ → ℕ → List ℕ
record_at s ws = added record_bytes (λ c i x. record_of (known_as s) c (facts_in s ws) i x ∷ []) s ws

unfoldable pub inspection_at : List ℕ → List ℕ → ℕ → ℕ → List ℕ
inspection_at s ws = added inspection_bytes inspection_of s ws

unfoldable pub branch_at : List ℕ → List ℕ → ℕ → ℕ → List ℕ
branch_at s ws = added branch_bytes branch_of s ws

-- by the tag
unfoldable pub added_for : List ℕ → List ℕ → ℕ → ℕ → ℕ → List ℕ
added_for s ws tag n i =
    cond (eqb tag 19) (record_at s ws n i)
    (cond (eqb tag 20) (inspection_at s ws n i)
    (cond (eqb tag 21) (branch_at s ws n i) []))

-- the instructions of the chunk n that may be recorded: none where it isn't reachable
unfoldable pub recordable : List ℕ → ℕ → ℕ
recordable s n = cond (chunk_no (module_of s) n).reachable (length (chunk_no (module_of s) n).code) 0

unfoldable pub chunk_for : List ℕ → List ℕ → ℕ → ℕ → List ℕ
chunk_for s ws tag n = span (added_for s ws tag n) 0 (recordable s n)

unfoldable pub chunks_for : List ℕ → List ℕ → ℕ → List ℕ
chunks_for s ws tag = span (chunk_for s ws tag) 0 (length (module_of s).chunks)
