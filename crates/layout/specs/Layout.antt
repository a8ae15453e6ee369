-- Where things stand in the workspace, in words. Every cell has 16: the reply and three more; one of numbers for each chunk; one for each slot;
-- then for each chunk its inputs, its result, and a row for each instruction: 6 cells of numbers, D stack places, L locals.
use Rattle.std.specs.Prelude.{ℕ, zero, suc, ◌+◌, ◌*◌, List, [], ◌∷◌, length}
use Rattle.definition.specs.Module.{Module, Chunk}
use Rattle.form_laws.specs.Good.{chunk_no, row_cells}

-- the cells of a chunk beside its cell of numbers
unfoldable pub area_cells : Chunk → ℕ
area_cells c = length c.params + 1 + length c.code * row_cells c

unfoldable pub cells_before : List Chunk → ℕ → ℕ
cells_before cs zero = 0
cells_before [] (suc n) = 0
cells_before (c ∷ cs) (suc n) = area_cells c + cells_before cs n

-- the first cell of the inputs of the chunk n
unfoldable pub area_of : Module → ℕ → ℕ
area_of m n = 4 + length m.chunks + m.slots + cells_before m.chunks n

-- ---- in front: the reply and three cells more, then a cell of numbers for each chunk, then a cell for each slot
abbrev pub head_words : ℕ
head_words = 64

abbrev pub numbers_at : ℕ → ℕ
numbers_at n = head_words + 16 * n

-- the words of a chunk's numbers: where its field stands, its first row, how many instructions, L, D, whether it is reachable, whether it
-- suspends, its first input, how many parameters, whether it streams
abbrev pub word_at : ℕ
word_at = 0

abbrev pub word_rows : ℕ
word_rows = 1

abbrev pub word_count : ℕ
word_count = 2

abbrev pub word_locals : ℕ
word_locals = 3

abbrev pub word_stack : ℕ
word_stack = 4

abbrev pub word_reachable : ℕ
word_reachable = 5

abbrev pub word_suspends : ℕ
word_suspends = 6

abbrev pub word_inputs : ℕ
word_inputs = 7

abbrev pub word_params : ℕ
word_params = 8

abbrev pub word_streams : ℕ
word_streams = 9

unfoldable pub slot_at : Module → ℕ → ℕ
slot_at m n = numbers_at (length m.chunks) + 16 * n

unfoldable pub input_at : Module → ℕ → ℕ → ℕ
input_at m n k = 16 * area_of m n + 16 * k

unfoldable pub result_at : Module → ℕ → ℕ
result_at m n = 16 * area_of m n + 16 * length (chunk_no m n).params

-- the row of the instruction i
unfoldable pub rows_at : Module → ℕ → ℕ
rows_at m n = 16 * area_of m n + 16 * (length (chunk_no m n).params + 1)

unfoldable pub row_at : Module → ℕ → ℕ → ℕ
row_at m n i = rows_at m n + i * (16 * row_cells (chunk_no m n))

-- ---- a row: the words of numbers at its head, then the stack places, then the locals
-- 6 cells of numbers: the first word is 0 for no state, else the height and one; the next has where the instruction's field stands
abbrev pub row_head : ℕ
row_head = 96

abbrev pub row_field : ℕ
row_field = 1

-- its first stack place, and the place p
abbrev pub stack_at : ℕ → ℕ
stack_at row = row + row_head

abbrev pub place_at : ℕ → ℕ → ℕ
place_at row p = row + row_head + 16 * p

-- its first local, and the local i
abbrev pub locals_at : ℕ → ℕ → ℕ
locals_at row stack = row + row_head + 16 * stack

abbrev pub local_at : ℕ → ℕ → ℕ → ℕ
local_at row stack i = row + row_head + 16 * (stack + i)
