-- The machine that a workspace and a run stand for, and what holds of them between two takings.
use Rattle.std.specs.Prelude.{ℕ, suc, ◌+◌, ◌*◌, ◌-◌, ◌<◌, ◌≤◌, ◌≡◌, true, cond, List, [], length, get_or, drop}
use Rattle.std.proofs.Math.Option.{Option, none}
use Rattle.ring.specs.declared.Queue.{Queue}
use Rattle.ring.specs.Ring.{QueueReady, cap_of, entry_at, queue_of}
use Rattle.definition.specs.Machine.{Work, Seen, Machine, Final, Analysis}
use Rattle.definition.specs.Module.{Chunk, row, module_of}
use Rattle.definition.specs.State.{State, Facts, Live, Gift}
use Rattle.definition.specs.Leaves.{Known}
use Rattle.definition.specs.Start.{admitted, first_facts, known_of}
use Rattle.definition.specs.Call.{analysis_of}
use Rattle.form_laws.specs.Good.{chunk_no, row_cells, words_of}
use Rattle.layout.specs.Layout.{rows_at, row_at}
use Rattle.layout.specs.Indexed.{Indexed}
use Rattle.layout.specs.Kept.{Steady}
use Rattle.row_join.specs.joining.Leave.{state_in}
use Rattle.visit.specs.Held.{facts_in, live_in, known_in}
use Rattle.run_state.specs.declared.Run.{Run}

-- the state of the instruction i of the chunk n
abbrev pub state_at : List ℕ → ℕ → List ℕ → ℕ → Option State
state_at s n ws i = state_in ws (row_at (module_of s) n i) (chunk_no (module_of s) n).stack (chunk_no (module_of s) n).locals

-- the states of the chunk n, one for each instruction
unfoldable pub states_in : List ℕ → List ℕ → ℕ → List (Option State)
states_in s ws n = row (state_at s n ws) 0 (length (chunk_no (module_of s) n).code)

-- the states of the chunks before n; an unreachable one has none
unfoldable pub past_in : List ℕ → List ℕ → ℕ → List (List (Option State))
past_in s ws n = row (λ k. cond (chunk_no (module_of s) k).reachable (states_in s ws k) []) 0 n

unfoldable pub work_in : List ℕ → List ℕ → ℕ → Queue → Work State
work_in s ws n q = record { states = states_in s ws n; queue = queue_of ws (words_of (module_of s)) q }

unfoldable pub seen_in : List ℕ → List ℕ → Run → Seen Live State
seen_in s ws r = record { facts = live_in s ws r.changed; work = work_in s ws r.chunk r.queue }

-- the machine
unfoldable pub machine_in : List ℕ → List ℕ → Run → Machine Chunk Live State
machine_in s ws r =
    record {
      validating = r.validating;
      number = r.chunk;
      chunk = chunk_no (module_of s) r.chunk;
      rest = drop (suc r.chunk) (module_of s).chunks;
      past = past_in s ws r.chunk;
      states = states_in s ws r.chunk;
      queue = queue_of ws (words_of (module_of s)) r.queue;
      facts = live_in s ws r.changed;
    }

-- what an accepted run leaves
unfoldable pub final_in : List ℕ → List ℕ → Final Facts State
final_in s ws = record { facts = facts_in s ws; states = past_in s ws (length (module_of s).chunks) }

-- the entries that the queue has room for
abbrev pub room_in : List ℕ → List ℕ → ℕ
room_in s ws = length ws - words_of (module_of s)

-- what a run knows from its start on
abbrev pub known_as : List ℕ → Known
known_as s = known_of (module_of s) (first_facts (module_of s))

-- the definition's analysis, with the room that the workspace leaves
abbrev pub analysis_in : List ℕ → List ℕ → Analysis Chunk Live Facts State Gift
analysis_in s ws = analysis_of (known_as s) (room_in s ws)

-- ---- what holds between two takings
-- no recorded stack of the chunk n is higher than D (the first word of a row is its height and one)
unfoldable pub Low : List ℕ → List ℕ → ℕ → Type 0
Low s ws n = (i : ℕ) → i < length (chunk_no (module_of s) n).code → get_or ws (row_at (module_of s) n i) 0 ≤ (chunk_no (module_of s) n).stack + 1

-- the queue of the chunk n stands in its words, and its entries are instructions
pub record Queued (s ws : List ℕ) (n : ℕ) (q : Queue) : Type 0 where
  pub ready : QueueReady ws (words_of (module_of s)) q
  pub entries : (k : ℕ) → k < q.count → entry_at ws (words_of (module_of s)) (cap_of ws (words_of (module_of s))) q.head k < length (chunk_no (module_of s) n).code

-- what the start has settled, and every taking keeps
pub record Prepared (s ws : List ℕ) : Type 0 where
  pub indexed : Indexed s ws
  pub room : words_of (module_of s) < length ws
  pub admitted : admitted (module_of s) (module_of s).chunks ≡ none
  pub known : known_in s ws ≡ known_as s

-- the same of every reachable chunk before n
unfoldable pub LowBefore : List ℕ → List ℕ → ℕ → Type 0
LowBefore s ws n = (k : ℕ) → k < n → (chunk_no (module_of s) k).reachable ≡ true → Low s ws k

pub record Between (s ws : List ℕ) (r : Run) : Type 0 where
  pub prepared : Prepared s ws
  pub chunk : r.chunk < length (module_of s).chunks
  pub reachable : (chunk_no (module_of s) r.chunk).reachable ≡ true
  pub queued : Queued s ws r.chunk r.queue
  pub low : Low s ws r.chunk
  pub before : LowBefore s ws r.chunk

-- what the end of an accepted run has
pub record Ended (s ws : List ℕ) : Type 0 where
  pub prepared : Prepared s ws
  pub low : LowBefore s ws (length (module_of s).chunks)

-- ---- frames: a write to the rows of the chunk n and the queue; a write to the cells of slots, inputs and results
pub record RowsOnly (s : List ℕ) (n : ℕ) (ws v : List ℕ) : Type 0 where
  pub steady : Steady (module_of s) ws v
  pub under : (j : ℕ) → j < rows_at (module_of s) n → get_or v j 0 ≡ get_or ws j 0
  pub above : (j : ℕ) → row_at (module_of s) n (length (chunk_no (module_of s) n).code) ≤ j → j < words_of (module_of s) → get_or v j 0 ≡ get_or ws j 0

pub record FactsOnly (s : List ℕ) (ws v : List ℕ) : Type 0 where
  pub steady : Steady (module_of s) ws v
  pub front : (j : ℕ) → j < 64 → get_or v j 0 ≡ get_or ws j 0
  pub rows : (n i k : ℕ) → n < length (module_of s).chunks → i < length (chunk_no (module_of s) n).code → k < 16 * row_cells (chunk_no (module_of s) n)
      → get_or v (row_at (module_of s) n i + k) 0 ≡ get_or ws (row_at (module_of s) n i + k) 0
  pub queue : (j : ℕ) → words_of (module_of s) ≤ j → get_or v j 0 ≡ get_or ws j 0
