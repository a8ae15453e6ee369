-- A run in words, as the machine's run.
use Rattle.std.specs.Prelude.{ℕ, suc, ◌+◌, ◌<◌, ◌≡◌, List, length, Option, Result, Ok, Err}
use Rattle.definition.specs.Machine.{Where, due, done, stop, Ran, accepted, refused, settled, next}
use Rattle.definition.specs.Module.{Chunk, module_of}
use Rattle.definition.specs.State.{State, Facts, Live}
use Rattle.definition.specs.Start.{first_facts}
use Rattle.definition.specs.Call.{run_of}
use Rattle.ring.specs.Ring.{queue_of}
use Rattle.form_laws.specs.Good.{words_of}
use Rattle.run_state.specs.declared.Run.{Run}
use Rattle.run_state.specs.Course.{machine_in, final_in, room_in, known_as, analysis_in, Between, Ended}
use Rattle.rounds.specs.entering.Entering.{where_in, Goes}
use Rattle.machine_laws.specs.Takings.{after-takings, takings}
use Rattle.run.specs.declared.RunTo.{RunTo}
use Rattle.run.specs.declared.RunTo.TheVariants.{Due, Over}
use Rattle.answers.specs.declared.Refusal.{Refusal}

-- where the run stands, an entry due or not
unfoldable pub SettledAs : List ℕ → List ℕ → List ℕ → Run → Result (Option Run) Refusal → Type 0
SettledAs s ws u r x =
    (where_in s u x ≡ settled (analysis_in s ws) (machine_in s ws r) (queue_of ws (words_of (module_of s)) r.queue))
    × Goes s u r.steps x
    × (length u ≡ length ws)

-- one turn is the machine's next
unfoldable pub Turned : List ℕ → List ℕ → List ℕ → Run → Result (Option Run) Refusal → Type 0
Turned s ws u r x =
    (where_in s u x ≡ next (analysis_in s ws) (machine_in s ws r)) × Goes s u (suc r.steps) x × (length u ≡ length ws)

-- ---- a run up to a limit
-- where it stands
unfoldable pub stands_in : List ℕ → List ℕ → Result RunTo Refusal → Where Chunk Live Facts State
stands_in s ws (Ok (Due r)) = due (machine_in s ws r)
stands_in s ws (Ok (Over n)) = done (final_in s ws)
stands_in s ws (Err f) = stop (record { number = f.number; chunk = f.chunk; instruction = f.instruction })

-- after n steps: an entry is due, the end has what the report needs, a refusal has the steps
unfoldable pub StandsAt : List ℕ → List ℕ → ℕ → Result RunTo Refusal → Type 0
StandsAt s ws n (Ok (Due r)) = Between s ws r × (0 < r.queue.count) × (r.steps ≡ n)
StandsAt s ws n (Ok (Over k)) = Ended s ws × (k ≡ n)
StandsAt s ws n (Err f) = f.steps ≡ n

-- after `left` takings more than `steps`, from where it stood
pub record RanTo (s ws u : List ℕ) (left steps : ℕ) (from : Where Chunk Live Facts State) (x : Result RunTo Refusal) : Type 0 where
  pub stands : stands_in s u x ≡ after-takings (analysis_in s ws) left from
  pub at : StandsAt s u (steps + takings (analysis_in s ws) left from) x
  pub long : length u ≡ length ws

-- ---- what a run comes to
unfoldable pub ran_in : List ℕ → List ℕ → Result ℕ Refusal → Ran Facts State
ran_in s ws (Ok n) = accepted (final_in s ws) n
ran_in s ws (Err f) = refused f

-- an accepted one leaves what the report needs
unfoldable pub EndedBy : List ℕ → List ℕ → Result ℕ Refusal → Type 0
EndedBy s ws (Ok n) = Ended s ws
EndedBy s ws (Err f) = f ≡ f

unfoldable pub RanAs : List ℕ → List ℕ → List ℕ → ℕ → Result ℕ Refusal → Type 0
RanAs s ws u limit x = (ran_in s u x ≡ run_of (known_as s) (room_in s ws) limit (first_facts (module_of s))) × EndedBy s u x
