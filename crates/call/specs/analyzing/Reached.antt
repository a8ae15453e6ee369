-- What a run has come to is what is decided: a refusal, or the report of what stands in the workspace.
use Rattle.std.specs.Prelude.{◌≡◌, ℕ, List, Result, Ok, Err}
use Rattle.definition.specs.Call.{Decided, reported, turned}
use Rattle.run_state.specs.Course.{Ended}
use Rattle.report_size.specs.Reporting.{Faultless, report_in}
use Rattle.answers.specs.declared.Refusal.{Refusal}
use Rattle.call.specs.declared.analyzing.End.{End}

-- s the description, ws the workspace after the run
unfoldable pub ReachedBy : Decided → List ℕ → List ℕ → Result End Refusal → Type 0
ReachedBy d s ws (Err r) = d ≡ turned r
ReachedBy d s ws (Ok e) = (d ≡ reported (report_in s ws e.reply) e.steps) × Ended s ws × Faultless s ws
