-- Room and steps that are enough for a description. They show that some are: they are far from the least, and need not fit the 32 bits in
-- which a caller can name them.
use Rattle.std.specs.Prelude.{ℕ, ◌+◌, ◌*◌, ◌≤◌, ◌≡◌, false, List, length, Err}
use Rattle.std.proofs.Math.Option.{Option, none, some}
use Rattle.answers.specs.declared.Refusal.{Refusal}
use Rattle.definition.specs.Module.{Module, Chunk, Line, Site}
use Rattle.definition.specs.Leaves.{opened}
use Rattle.definition.specs.Start.{first_facts}
use Rattle.definition.specs.Call.{turned, decided, call}
use Rattle.definition.specs.CallIndexed.{call_indexed}
use Rattle.termination.specs.Left.{total, pass_most, passes_left}
use Rattle.termination.specs.Measure.{cell_most, changes_left}

-- a number that is neither the limit's nor the queue's
abbrev pub Otherwise : ℕ → Type 0
Otherwise n = (n ≡ 7 → ⊥) × (n ≡ 8 → ⊥)

-- ---- a size that no range of a run passes: any u32, and every size that the description names
unfoldable pub site_size : Option Site → ℕ
site_size none = 0
site_size (some x) = x.reply.size

unfoldable pub line_size : Line → ℕ
line_size x = x.instr.c + site_size x.site

unfoldable pub chunk_size : Chunk → ℕ
chunk_size c = total line_size c.code + (total (λ s. s.size) c.params + c.result.size)

unfoldable pub size_most : Module → ℕ
size_most m = 4294967295 + (total chunk_size m.chunks + total (λ n. n.shape.size) m.natives)

-- ---- the most that a state can have: no stack is higher, no locals are more than all chunks' together
unfoldable pub state_most : Module → ℕ
state_most m = (total (λ c. c.stack) m.chunks + total (λ c. c.locals) m.chunks) * cell_most (size_most m)

-- entries of the queue: as many as a pass has left at its start
unfoldable pub room_for : Module → ℕ
room_for m = pass_most (λ c. length c.code) (state_most m) m.chunks

-- takings: a pass, and the passes that may follow
unfoldable pub limit_for : Module → ℕ
limit_for m = room_for m + passes_left false (room_for m) (changes_left (size_most m) (opened (first_facts m)))

-- from this room and limit on what is decided is refused neither by 7 nor by 8
abbrev pub Enough : Module → ℕ → ℕ → Type 0
Enough m room limit = (cap n : ℕ) → room ≤ cap → limit ≤ n → (r : Refusal) → decided m cap n ≡ turned r → Otherwise r.number

-- and so a call with so many words beyond W, nor by 5
abbrev pub EnoughWords : List ℕ → ℕ → ℕ → Type 0
EnoughWords s words limit =
    (ws buf : List ℕ) (n : ℕ) → words ≤ length ws → limit ≤ n → (r : Refusal) → (call s ws buf n).answer ≡ Err r
    → Otherwise r.number × (r.number ≡ 5 → ⊥)

-- and a call with an index
abbrev pub EnoughIndexed : List ℕ → ℕ → ℕ → Type 0
EnoughIndexed s words limit =
    (ws buf idx : List ℕ) (n : ℕ) → words ≤ length ws → limit ≤ n → (r : Refusal) → (call_indexed s ws buf idx n).answer ≡ Err r
    → Otherwise r.number × (r.number ≡ 5 → ⊥)

-- from so many words and steps on answer and report depend only on the description and the report buffer
abbrev pub OneAnswer : List ℕ → ℕ → ℕ → Type 0
OneAnswer s words limit =
    (ws ws' buf : List ℕ) (n n' : ℕ) → words ≤ length ws → words ≤ length ws' → limit ≤ n → limit ≤ n'
    → ((call s ws buf n).answer ≡ (call s ws' buf n').answer) × ((call s ws buf n).report ≡ (call s ws' buf n').report)
