-- Document 02, Six: a workspace in which a run has paused after n steps. How the run is coded there is free (docs/DECISIONS.md (c), "Pausing"); this is
-- what every such workspace has in common: the words stand for the definition's machine after exactly n takings, an entry due, and they are marked.
use Rattle.std.specs.Prelude.{ℕ, ◌<◌, ◌≡◌, List}
use Rattle.mark.specs.Marks.{Marked}
use Rattle.definition.specs.Machine.{due, begun}
use Rattle.definition.specs.Module.{module_of}
use Rattle.definition.specs.Start.{first_facts}
use Rattle.machine_laws.specs.Takings.{after-takings}
use Rattle.run_state.specs.Course.{machine_in, analysis_in, Between}
use Rattle.paused.specs.Stored.{run_in}
use Rattle.pause_laws.specs.Turn.{most_steps}

pub record Paused (s ws : List ℕ) (n : ℕ) : Type 0 where
  pub between : Between s ws (run_in ws)
  pub some : 0 < (run_in ws).queue.count
  pub steps : (run_in ws).steps ≡ n
  pub below : n < most_steps
  pub state : after-takings (analysis_in s ws) n (begun (analysis_in s ws) (first_facts (module_of s))) ≡ due (machine_in s ws (run_in ws))
  pub marked : Marked ws
