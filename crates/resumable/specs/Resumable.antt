-- What is tested of a run that comes back: it stands where some run of its description may stand.
use Rattle.std.specs.Prelude.{ℕ, ◌<◌, ◌≡◌, true, List}
use Rattle.ring.specs.declared.Queue.{Queue}
use Rattle.ring.specs.Ring.{QueueReady, cap_of, entry_at}
use Rattle.definition.specs.Module.{module_of}
use Rattle.form_laws.specs.Good.{chunk_no}
use Rattle.run_state.specs.declared.Run.{Run}
use Rattle.run_state.specs.Course.{Between, Low}

-- the engine can go on from here: all that holds between two takings does, and an entry is due
unfoldable pub CanGoOn : List ℕ → List ℕ → Run → Type 0
CanGoOn s ws r = Between s ws r × (0 < r.queue.count)

-- ---- its parts
-- the rows of the chunk n are low, if it is reachable; those of any other hold nothing that is read
unfoldable pub LowReached : List ℕ → List ℕ → ℕ → Type 0
LowReached s ws n = (chunk_no (module_of s) n).reachable ≡ true → Low s ws n

-- every entry is below the number of instructions
unfoldable pub EntriesBelow : List ℕ → ℕ → Queue → ℕ → Type 0
EntriesBelow ws base q n = (k : ℕ) → k < q.count → entry_at ws base (cap_of ws base) q.head k < n

-- a queue with entries, in the words from base on, for a chunk of n instructions
pub record QueueDue (ws : List ℕ) (base : ℕ) (q : Queue) (n : ℕ) : Type 0 where
  pub ready : QueueReady ws base q
  pub some : 0 < q.count
  pub entries : EntriesBelow ws base q n
