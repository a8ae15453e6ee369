-- A chunk has begun: the machine that the words stand for is the one that enters it.
use Rattle.std.specs.Prelude.{ℕ, suc, ◌<◌, ◌≡◌, Bool, List, [], ◌∷◌, length, drop}
use Rattle.definition.specs.Machine.{Machine}
use Rattle.definition.specs.Module.{Chunk, module_of}
use Rattle.definition.specs.State.{State, Live}
use Rattle.definition.specs.Start.{start}
use Rattle.form_laws.specs.Good.{chunk_no}
use Rattle.visit.specs.Held.{facts_in, live_in}
use Rattle.run_state.specs.declared.Run.{Run}
use Rattle.run_state.specs.Course.{past_in, machine_in, Between}

-- the machine where the chunk c is entered
abbrev pub entered : List ℕ → List ℕ → ℕ → Bool → Bool → Machine Chunk Live State
entered s ws c validating changed =
    record {
      validating = validating;
      number = c;
      chunk = chunk_no (module_of s) c;
      rest = drop (suc c) (module_of s).chunks;
      past = past_in s ws c;
      states = start (chunk_no (module_of s) c) (facts_in s ws);
      queue = 0 ∷ [];
      facts = live_in s ws changed;
    }

pub record Began (s ws v : List ℕ) (c : ℕ) (validating changed : Bool) (steps : ℕ) (r : Run) : Type 0 where
  pub between : Between s v r
  pub due : 0 < r.queue.count
  pub same-steps : r.steps ≡ steps
  pub long : length v ≡ length ws
  pub machine : machine_in s v r ≡ entered s ws c validating changed
