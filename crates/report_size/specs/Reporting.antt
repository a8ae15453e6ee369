-- The report of what an accepted run left in the workspace.
use Rattle.std.specs.Prelude.{ℕ, ◌≡◌, true, List}
use Rattle.definition.specs.Module.{module_of}
use Rattle.definition.specs.Leaves.{always}
use Rattle.definition.specs.Report.{Report, report_of}
use Rattle.form_laws.specs.Good.{chunk_no}
use Rattle.visit.specs.declared.RowVisit.{RowVisit}
use Rattle.visit.specs.Held.{Looking, visit_in}
use Rattle.run_state.specs.Course.{final_in, known_as}

-- no recorded visit is refused in whatever mode: a run that is accepted has validated them all
unfoldable pub Faultless : List ℕ → List ℕ → Type 0
Faultless s ws = (v : RowVisit) → Looking s ws v → (chunk_no (module_of s) v.chunk).reachable ≡ true → always (visit_in s ws v) ≡ 0

unfoldable pub report_in : List ℕ → List ℕ → ℕ → Report
report_in s ws reply = report_of (known_as s) reply (final_in s ws)
