-- What a write that keeps the index leaves: v has the index words of ws.
use Rattle.std.specs.Prelude.{ℕ, ◌+◌, ◌/◌, ◌<◌, ◌≡◌, List, length, get_or}
use Rattle.definition.specs.Module.{Module}
use Rattle.form_laws.specs.Good.{chunk_no}
use Rattle.layout.specs.Layout.{numbers_at, slot_at, row_at, row_field, word_suspends}

pub record Kept (m : Module) (ws v : List ℕ) : Type 0 where
  pub long : length v ≡ length ws
  pub numbers : (n k : ℕ) → n < length m.chunks → k < 10 → (k ≡ 6 → ⊥) → get_or v (numbers_at n + k) 0 ≡ get_or ws (numbers_at n + k) 0
  pub fields : (n i : ℕ) → n < length m.chunks → i < length (chunk_no m n).code → get_or v (row_at m n i + row_field) 0 ≡ get_or ws (row_at m n i + row_field) 0
  pub marks : (n : ℕ) → n < m.slots → get_or v (slot_at m n + 15) 0 / 65536 ≡ get_or ws (slot_at m n + 15) 0 / 65536

-- and which chunks suspend stays too
pub record Steady (m : Module) (ws v : List ℕ) : Type 0 where
  pub kept : Kept m ws v
  pub suspends : (n : ℕ) → n < length m.chunks → get_or v (numbers_at n + word_suspends) 0 ≡ get_or ws (numbers_at n + word_suspends) 0
