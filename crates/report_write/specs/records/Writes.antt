-- A slot of the report, as it stands in the workspace.
use Rattle.std.specs.Prelude.{ℕ, ◌+◌, ◌*◌, List}
use Rattle.definition.specs.Report.{slot_bytes}
use Rattle.report_size.specs.Adds.{bare_at}
use Rattle.layout.specs.Layout.{head_words}

-- the slot k of a module with so many chunks
unfoldable pub slot_from : List ℕ → ℕ → ℕ → List ℕ
slot_from ws chunks k = slot_bytes (bare_at ws (head_words + 16 * chunks + 16 * k))
