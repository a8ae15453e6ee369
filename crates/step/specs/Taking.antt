-- One taking of an entry, as the machine has it.
use Rattle.std.specs.Prelude.{ℕ, zero, suc, ◌+◌, ◌<◌, ◌^◌, ◌≡◌, Bool, cond, List}
use Rattle.ring.specs.declared.Queue.{Queue}
use Rattle.ring.specs.Ring.{queue_of}
use Rattle.definition.specs.Res.{Res}
use Rattle.definition.specs.Machine.{Seen, visit, adds}
use Rattle.definition.specs.Module.{module_of}
use Rattle.definition.specs.State.{State, Live, join}
use Rattle.definition.specs.Outputs.{Visit}
use Rattle.definition.specs.Wants.{unfit}
use Rattle.definition.specs.Leaves.{always, height_fault, leaves}
use Rattle.form_laws.specs.Good.{chunk_no, words_of}
use Rattle.layout.specs.declared.Tables.{Tables}
use Rattle.layout.specs.declared.Chunk.{Chunk}
use Rattle.visit.specs.declared.RowVisit.{RowVisit}
use Rattle.visit.specs.Held.{live_in, Visiting}
use Rattle.run_state.specs.declared.Run.{Run}
use Rattle.run_state.specs.Course.{states_in, room_in, known_as, analysis_in, Queued, Between}

-- the machine's visit of the instruction i, the queue q without its entry
unfoldable pub taking_of : List ℕ → List ℕ → Run → Queue → ℕ → Res (Seen Live State)
taking_of s ws r q i =
    visit join (room_in s ws) (λ (x : Live). x.known) (adds (analysis_in s ws) r.validating)
    (leaves (known_as s) r.validating (chunk_no (module_of s) r.chunk))
    (live_in s ws r.changed) (states_in s ws r.chunk) (queue_of ws (words_of (module_of s)) q) i

-- the visit of the entry that was due; q is the queue without it
pub record VisitDue (s ws : List ℕ) (t : Tables) (ch : Chunk) (v : RowVisit) (r : Run) (q : Queue) : Type 0 where
  pub between : Between s ws r
  pub visiting : Visiting s ws t ch v
  pub same : v.chunk ≡ r.chunk
  pub queued : Queued s ws v.chunk q
  pub steps : r.steps + 1 < 2 ^ 32

-- ---- what refuses a visit: the first that is not 0
abbrev pub first : ℕ → ℕ → ℕ
first zero n = n
first (suc m) n = suc m

unfoldable pub fault_of : Bool → Visit → ℕ
fault_of validating x = first (always x) (first (cond validating (unfit x) 0) (height_fault x))
