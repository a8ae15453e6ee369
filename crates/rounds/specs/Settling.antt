-- Where a run stands after settling, as the machine has it.
use Rattle.std.specs.Prelude.{ℕ, ◌≡◌, List, length, Option, Result}
use Rattle.definition.specs.Machine.{settle}
use Rattle.run_state.specs.declared.Run.{Run}
use Rattle.run_state.specs.Course.{machine_in, analysis_in}
use Rattle.rounds.specs.entering.Entering.{where_in, Goes}
use Rattle.answers.specs.declared.Refusal.{Refusal}

unfoldable pub Onward : List ℕ → List ℕ → List ℕ → Run → Result (Option Run) Refusal → Type 0
Onward s ws v r x =
    (where_in s v x ≡ settle (analysis_in s ws) (machine_in s ws r) r.validating)
    × Goes s v r.steps x
    × (length v ≡ length ws)
