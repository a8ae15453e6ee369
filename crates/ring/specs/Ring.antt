-- A queue in the words from `base` to the end, as a ring.
use Rattle.std.specs.Prelude.{ℕ, zero, suc, ◌+◌, ◌-◌, ◌≤◌, ◌<◌, cond, List, [], ◌∷◌, ltb, length, get_or, set}
use Rattle.ring.specs.declared.Queue.{Queue}

abbrev pub wrap_of : ℕ → ℕ → ℕ
wrap_of t cap = cond (ltb t cap) t (t - cap)

-- the words have room, and the queue stands in them
pub record QueueReady (w : List ℕ) (base : ℕ) (q : Queue) : Type 0 where
  pub fits : base ≤ length w
  pub head : q.head < length w - base
  pub count : q.count ≤ length w - base

abbrev pub cap_of : List ℕ → ℕ → ℕ
cap_of w base = length w - base

-- where the i-th entry lies
unfoldable pub slot : ℕ → ℕ → ℕ → ℕ → ℕ
slot base cap h i = base + wrap_of (h + i) cap

unfoldable pub pushed : List ℕ → ℕ → Queue → ℕ → List ℕ
pushed w base q x = set w (base + wrap_of (q.head + q.count) (cap_of w base)) x

abbrev pub grown : Queue → Queue
grown q = record { head = q.head; count = q.count + 1 }

-- the entry due
abbrev pub due_of : List ℕ → ℕ → Queue → ℕ
due_of w base q = get_or w (base + q.head) 0

-- the queue without it
abbrev pub popped_of : List ℕ → ℕ → Queue → Queue
popped_of w base q = record { head = wrap_of (q.head + 1) (cap_of w base); count = q.count - 1 }

-- ---- the entries, first to last
abbrev pub tab : {A : Type 0} → (ℕ → A) → ℕ → ℕ → List A
tab f k zero = []
tab f k (suc n) = f k ∷ tab f (suc k) n

abbrev pub entry_at : List ℕ → ℕ → ℕ → ℕ → ℕ → ℕ
entry_at w base cap h i = get_or w (slot base cap h i) 0

unfoldable pub queue_of : List ℕ → ℕ → Queue → List ℕ
queue_of w base q = tab (entry_at w base (cap_of w base) q.head) 0 q.count
