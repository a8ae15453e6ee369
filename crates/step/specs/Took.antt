-- What one taking leaves, as the machine's visit of the entry due.
use Rattle.std.specs.Prelude.{ℕ, ◌+◌, ◌≡◌, List, length, Result, Ok, Err}
use Rattle.answers.specs.Answers.{refusal}
use Rattle.ring.specs.declared.Queue.{Queue}
use Rattle.definition.specs.Res.{ok, bad}
use Rattle.run_state.specs.declared.Run.{Run}
use Rattle.run_state.specs.Course.{past_in, seen_in, Between}
use Rattle.step.specs.Taking.{taking_of}
use Rattle.answers.specs.declared.Refusal.{Refusal}

-- u: the words after it; q: the queue without the entry i
unfoldable pub Took : List ℕ → List ℕ → List ℕ → Run → Queue → ℕ → Result Run Refusal → Type 0
Took s ws u r q i (Ok x) =
    (taking_of s ws r q i ≡ ok (seen_in s u x))
    × Between s u x
    × (x.validating ≡ r.validating)
    × (x.chunk ≡ r.chunk)
    × (x.steps ≡ r.steps + 1)
    × (past_in s u r.chunk ≡ past_in s ws r.chunk)
    × (length u ≡ length ws)
Took s ws u r q i (Err f) = (taking_of s ws r q i ≡ bad f.number) × (f ≡ refusal f.number r.chunk i (r.steps + 1))
