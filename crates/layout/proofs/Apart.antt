-- Things of the workspace stand apart, and all of them below W: the reply, the chunks' numbers, the slots, then the chunks' areas one after the
-- other, each of inputs, result and rows.
use Prim.Native.Nat.{ℕ, zero, suc, ◌+◌, ◌*◌, ◌<◌, ◌≤◌}
use mathlib.Core.Path.{◌≡◌, refl}
use mathlib.Core.Bool.{Bool, true, false}
use mathlib.Core.List.{List, [], ◌∷◌}
use mathlib.Core.Logic.{◌⊎◌, inl, inr}
use native.Mathlib.Nat.{suc-mul, mul_left_comm, mul-le-mul_right}
use native.Mathlib.Omega.{arith}
use borrow.Author.Tests.{ltb-true, ltb-false}
use lib.Dec.{ltb}
use lib.ListN.{length, get_or}
use Rattle.definition.specs.Module.{Module, Chunk}
use Rattle.form_laws.specs.Good.{no_chunk, chunk_no, row_cells, chunk_cells, cells_in, words_of}
use Rattle.layout.specs.Layout.{area_cells, cells_before, area_of, numbers_at, slot_at, input_at, result_at, rows_at, row_at, place_at, local_at, head_words}

-- two numbers are one, or one of them is less
pub by_order : {P : Type 0} (a b : ℕ) → (a < b → P) → (a ≡ b → P) → (b < a → P) → P
by_order {P} a b less same more = go (ltb a b) (ltb b a) refl refl
  where
    go : (s t : Bool) → ltb a b ≡ s → ltb b a ≡ t → P
    go true t p q = less (ltb-true a b p)
    go false true p q = more (ltb-true b a q)
    go false false p q = same (omega (arith, ltb-false a b p, ltb-false b a q))

-- ---- areas
cells-step : (cs : List Chunk) (n : ℕ) → n < length cs → cells_before cs n + area_cells (get_or cs n no_chunk) ≡ cells_before cs (suc n)
unfolding cells_before
cells-step [] n h = absurd (omega arith)
cells-step (c ∷ cs) zero h = omega arith
cells-step (c ∷ cs) (suc n) h = omega (arith, cells-step cs n (omega arith))

cells-mono : (cs : List Chunk) (n k : ℕ) → n ≤ k → cells_before cs n ≤ cells_before cs k
unfolding cells_before
cells-mono cs zero k h = omega arith
cells-mono cs (suc n) zero h = absurd (omega arith)
cells-mono [] (suc n) (suc k) h = omega arith
cells-mono (c ∷ cs) (suc n) (suc k) h = omega (arith, cells-mono cs n k (omega arith))

cells-all : (cs : List Chunk) → cells_before cs (length cs) + length cs ≡ cells_in cs
unfolding cells_before cells_in area_cells chunk_cells
cells-all [] = refl
cells-all (c ∷ cs) = omega (arith, cells-all cs)

-- an area begins where the one before it ends
pub area-next : (m : Module) (n : ℕ) → n < length m.chunks → area_of m n + area_cells (chunk_no m n) ≡ area_of m (suc n)
unfolding area_of chunk_no
area-next m n h = omega (arith, cells-step m.chunks n h)

pub area-apart : (m : Module) (n k : ℕ) → n < k → k ≤ length m.chunks → 16 * (area_of m n + area_cells (chunk_no m n)) ≤ 16 * area_of m k
unfolding area_of
area-apart m n k l h = omega (arith, area-next m n (omega arith), cells-mono m.chunks (suc n) k (omega arith))

-- the last area ends at W
pub area-last : (m : Module) → 16 * area_of m (length m.chunks) ≡ words_of m
unfolding area_of words_of
area-last m = omega (arith, cells-all m.chunks)

pub area_in : (m : Module) (n : ℕ) → n < length m.chunks → 16 * (area_of m n + area_cells (chunk_no m n)) ≤ words_of m
area_in m n h = omega (arith, area-apart m n (length m.chunks) h (omega arith), area-last m)

-- ---- before the areas
pub numbers-first : (m : Module) (n k : ℕ) → n < length m.chunks → numbers_at n + 16 ≤ slot_at m k
unfolding slot_at
numbers-first m n k h = omega arith

pub slots_apart : (m : Module) (n k : ℕ) → n < k → slot_at m n + 16 ≤ slot_at m k
unfolding slot_at
slots_apart m n k l = omega arith

-- the slots stand behind the numbers
pub slots-behind : (m : Module) (n : ℕ) → head_words + 16 * length m.chunks ≤ slot_at m n
unfolding slot_at
slots-behind m n = omega arith

pub slots-first : (m : Module) (n k : ℕ) → n < m.slots → slot_at m n + 16 ≤ 16 * area_of m k
unfolding slot_at area_of
slots-first m n k h = omega arith

-- the areas stand behind the numbers, whether there are slots or none
pub areas-behind : (m : Module) (k : ℕ) → head_words + 16 * length m.chunks ≤ 16 * area_of m k
unfolding area_of
areas-behind m k = omega arith

pub numbers-in : (m : Module) (n : ℕ) → n < length m.chunks → numbers_at n + 16 ≤ words_of m
numbers-in m n h = omega (arith, areas-behind m (length m.chunks), area-last m)

pub slots-in : (m : Module) (n : ℕ) → n < m.slots → slot_at m n + 16 ≤ words_of m
slots-in m n h = omega (arith, slots-first m n (length m.chunks) h, area-last m)

pub reply-in : (m : Module) → 64 ≤ words_of m
reply-in m = omega (arith, areas-behind m (length m.chunks), area-last m)

-- ---- in an area
pub inputs-first : (m : Module) (n k : ℕ) → k < length (chunk_no m n).params → input_at m n k + 16 ≤ result_at m n
unfolding input_at result_at
inputs-first m n k h = omega arith

pub result-next : (m : Module) (n : ℕ) → result_at m n + 16 ≡ rows_at m n
unfolding result_at rows_at
result-next m n = omega arith

pub inputs-begin : (m : Module) (n k : ℕ) → 16 * area_of m n ≤ input_at m n k
unfolding input_at
inputs-begin m n k = omega arith

pub result-begins : (m : Module) (n : ℕ) → 16 * area_of m n ≤ result_at m n
unfolding result_at
result-begins m n = omega arith

pub rows-begin : (m : Module) (n i : ℕ) → rows_at m n ≤ row_at m n i
unfolding row_at
rows-begin m n i = omega arith

turns : (i j r : ℕ) → i < j → i * r + r ≤ j * r
turns i j r l = omega (arith, suc-mul i r, mul-le-mul_right {m = suc i} {n = j} r (omega arith))

pub row_apart : (m : Module) (n i j : ℕ) → i < j → row_at m n i + 16 * row_cells (chunk_no m n) ≤ row_at m n j
unfolding row_at
row_apart m n i j l = omega (arith, turns i j (16 * row_cells (chunk_no m n)) l)

pub rows-in-area : (m : Module) (n : ℕ) → rows_at m n ≤ 16 * (area_of m n + area_cells (chunk_no m n))
unfolding rows_at area_cells
rows-in-area m n = omega arith

-- the rows end where the area does
pub rows_end : (m : Module) (n : ℕ) → row_at m n (length (chunk_no m n).code) ≡ 16 * (area_of m n + area_cells (chunk_no m n))
unfolding row_at rows_at area_cells
rows_end m n = omega (arith, mul_left_comm (length (chunk_no m n).code) 16 (row_cells (chunk_no m n)))

pub row-in-area : (m : Module) (n i : ℕ) → i < length (chunk_no m n).code → row_at m n i + 16 * row_cells (chunk_no m n) ≤ 16 * (area_of m n + area_cells (chunk_no m n))
row-in-area m n i l = omega (arith, row_apart m n i (length (chunk_no m n).code) l, rows_end m n)

-- a row of an earlier chunk
pub row_before : (m : Module) (n i k : ℕ) → i < length (chunk_no m n).code → n < k → k ≤ length m.chunks
    → row_at m n i + 16 * row_cells (chunk_no m n) ≤ 16 * area_of m k
row_before m n i k l h j = omega (arith, row-in-area m n i l, area-apart m n k h j)

pub row_in : (m : Module) (n i : ℕ) → n < length m.chunks → i < length (chunk_no m n).code → row_at m n i + 16 * row_cells (chunk_no m n) ≤ words_of m
row_in m n i h l = omega (arith, row-in-area m n i l, area_in m n h)

pub row-begins : (m : Module) (n i : ℕ) → 16 * area_of m n ≤ row_at m n i
row-begins m n i = omega (arith, rows-begin m n i, result-next m n, result-begins m n)

pub row_other : (m : Module) (n i j : ℕ) → (i ≡ j → ⊥)
    → (row_at m n i + 16 * row_cells (chunk_no m n) ≤ row_at m n j) ⊎ (row_at m n j + 16 * row_cells (chunk_no m n) ≤ row_at m n i)
row_other m n i j d = by_order i j (λ l. inl (row_apart m n i j l)) (λ e. absurd (d e)) (λ l. inr (row_apart m n j i l))

-- ---- in a row: numbers, stack places, locals
pub places-first : (row stack p i : ℕ) → p < stack → place_at row p + 16 ≤ local_at row stack i
places-first row stack p i l = omega arith

pub place-in-row : (c : Chunk) (row p : ℕ) → p < c.stack → place_at row p + 16 ≤ row + 16 * row_cells c
place-in-row c row p l = omega arith

pub local-in-row : (c : Chunk) (row i : ℕ) → i < c.locals → local_at row c.stack i + 16 ≤ row + 16 * row_cells c
local-in-row c row i l = omega arith

-- ---- each cell is below W
module _ (m : Module) (n : ℕ) (h : n < length m.chunks) where
  pub rows_in : rows_at m n ≤ words_of m
  rows_in = omega (arith, rows-in-area m n, area_in m n h)

  pub input-in : (k : ℕ) → k < length (chunk_no m n).params → input_at m n k + 16 ≤ words_of m
  input-in k l = omega (arith, inputs-first m n k l, result-next m n, rows_in)

  pub result-in : result_at m n + 16 ≤ words_of m
  result-in = omega (arith, result-next m n, rows_in)

  pub place_in : (i p : ℕ) → i < length (chunk_no m n).code → p < (chunk_no m n).stack → place_at (row_at m n i) p + 16 ≤ words_of m
  place_in i p l k = omega (arith, row_in m n i h l, place-in-row (chunk_no m n) (row_at m n i) p k)

  pub local-in : (i k : ℕ) → i < length (chunk_no m n).code → k < (chunk_no m n).locals → local_at (row_at m n i) (chunk_no m n).stack k + 16 ≤ words_of m
  local-in i k l j = omega (arith, row_in m n i h l, local-in-row (chunk_no m n) (row_at m n i) k j)
