-- A mark for each record: as many as there are records.
use Rattle.std.specs.Prelude.{ℕ, List, [], ◌∷◌}
use Rattle.definition.specs.Report.{Record, record_of}
use Rattle.visit.specs.Held.{facts_in}
use Rattle.run_state.specs.Course.{known_as}
use Rattle.report_size.specs.Span.{span}
use Rattle.report_size.specs.Adds.{added, recordable}

unfoldable pub mark : Record → List ℕ
mark x = 1 ∷ []

-- of the instruction i of the chunk n, of the chunk
unfoldable pub mark_for : List ℕ → List ℕ → ℕ → ℕ → List ℕ
mark_for s ws = added mark (λ c i x. record_of (known_as s) c (facts_in s ws) i x ∷ []) s ws

unfoldable pub marks_in : List ℕ → List ℕ → ℕ → List ℕ
marks_in s ws n = span (mark_for s ws n) 0 (recordable s n)
