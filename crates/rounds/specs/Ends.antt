-- On to the next chunk, and the end of a round or of validation, as the machine has them.
use Rattle.std.specs.Prelude.{ℕ, ◌≡◌, List, length, Option, Result}
use Rattle.std.proofs.Math.Option.{none}
use Rattle.definition.specs.Machine.{ending, onward}
use Rattle.definition.specs.Module.{module_of}
use Rattle.visit.specs.Held.{live_in}
use Rattle.run_state.specs.declared.Run.{Run}
use Rattle.run_state.specs.Course.{past_in, machine_in, analysis_in}
use Rattle.rounds.specs.entering.Entering.{where_in, Goes}
use Rattle.answers.specs.declared.Refusal.{Refusal}

-- a pass over all chunks has ended; the queue of a chunk is empty, and nothing was found in it
unfoldable pub EndsAs : List ℕ → List ℕ → List ℕ → Run → Result (Option Run) Refusal → Type 0
EndsAs s ws v r x =
    (where_in s v x ≡ ending (analysis_in s ws) r.validating (live_in s ws r.changed) (past_in s ws (length (module_of s).chunks)))
    × Goes s v r.steps x
    × (length v ≡ length ws)

unfoldable pub GoesOn : List ℕ → List ℕ → List ℕ → Run → Result (Option Run) Refusal → Type 0
GoesOn s ws v r x =
    (where_in s v x ≡ onward (analysis_in s ws) (machine_in s ws r) none)
    × Goes s v r.steps x
    × (length v ≡ length ws)
