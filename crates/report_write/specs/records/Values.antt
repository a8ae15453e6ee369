-- The values of a record, as they stand in the workspace.
use Rattle.std.specs.Prelude.{ℕ, ◌+◌, List, ◌++◌}
use Rattle.words.specs.Rows.{cells_at}
use Rattle.definition.specs.Module.{row, module_of}
use Rattle.definition.specs.Outputs.{output, outputs}
use Rattle.definition.specs.Wants.{guards}
use Rattle.definition.specs.Report.{placed, cells_bytes, outputs_bytes, guards_bytes}
use Rattle.form_laws.specs.Good.{chunk_no}
use Rattle.visit.specs.declared.RowVisit.{RowVisit}
use Rattle.visit.specs.Held.{visit_in}
use Rattle.layout.specs.Layout.{locals_at, stack_at}

-- ---- a record
-- stack, locals, outputs and guards, as they stand in the workspace
unfoldable pub values_in : List ℕ → List ℕ → RowVisit → List ℕ
values_in s ws v =
    cells_bytes (cells_at ws (stack_at v.row) v.height)
    ++ (cells_bytes (cells_at ws (locals_at v.row (chunk_no (module_of s) v.chunk).stack) (chunk_no (module_of s) v.chunk).locals)
    ++ (outputs_bytes (placed v.start (row (output (outputs (visit_in s ws v))) 0 v.ins.given))
    ++ guards_bytes (guards (visit_in s ws v))))
