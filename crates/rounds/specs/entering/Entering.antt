-- Where a run stands, as the machine has it; a pass over all chunks begins.
use Rattle.std.specs.Prelude.{ℕ, ◌<◌, ◌≡◌, Bool, false, List, [], length, Option, Some, None, Result, Ok, Err}
use Rattle.definition.specs.Machine.{Where, due, done, stop, Analysis, enter, finish}
use Rattle.definition.specs.Module.{Chunk}
use Rattle.definition.specs.State.{State, Facts, Live}
use Rattle.visit.specs.Held.{live_in}
use Rattle.run_state.specs.Course.{machine_in, final_in, analysis_in, Between, Ended}
use Rattle.answers.specs.declared.Refusal.{Refusal}
use Rattle.run_state.specs.declared.Run.{Run}

-- a pass over all chunks begins with these facts
abbrev pub pass_from : {C F R S G : Type 0} → Analysis C F R S G → Bool → F → Where C F R S
pass_from α v f = enter α v (finish α) 0 f [] α.chunks

-- where the words and the answer stand
unfoldable pub where_in : List ℕ → List ℕ → Result (Option Run) Refusal → Where Chunk Live Facts State
where_in s ws (Ok (Some r)) = due (machine_in s ws r)
where_in s ws (Ok None) = done (final_in s ws)
where_in s ws (Err f) = stop (record { number = f.number; chunk = f.chunk; instruction = f.instruction })

-- an entry is due, after these steps; the end has what the report needs; a refusal has the steps
unfoldable pub Goes : List ℕ → List ℕ → ℕ → Result (Option Run) Refusal → Type 0
Goes s ws steps (Ok (Some r)) = Between s ws r × (0 < r.queue.count) × (r.steps ≡ steps)
Goes s ws steps (Ok None) = Ended s ws
Goes s ws steps (Err f) = f.steps ≡ steps

unfoldable pub Opened : List ℕ → List ℕ → List ℕ → Bool → ℕ → Result (Option Run) Refusal → Type 0
Opened s ws v validating steps x =
    (where_in s v x ≡ pass_from (analysis_in s ws) validating (live_in s ws false))
    × Goes s v steps x
    × (length v ≡ length ws)
