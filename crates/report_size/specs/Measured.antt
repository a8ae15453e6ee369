-- How long the report is: what each instruction adds for all three tags, chunk by chunk.
use Rattle.std.specs.Prelude.{ℕ, List, ◌++◌}
use Rattle.report_size.specs.Span.{span}
use Rattle.report_size.specs.Adds.{added_for, recordable}

-- all that the instruction i of the chunk n adds, and the chunk
unfoldable pub all_for : List ℕ → List ℕ → ℕ → ℕ → List ℕ
all_for s ws n i = added_for s ws 19 n i ++ (added_for s ws 20 n i ++ added_for s ws 21 n i)

unfoldable pub all_in : List ℕ → List ℕ → ℕ → List ℕ
all_in s ws n = span (all_for s ws n) 0 (recordable s n)
