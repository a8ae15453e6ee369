-- A workspace that holds the index of a description: what the code reads there is what the definition's parse has.
use Rattle.std.specs.Prelude.{ℕ, ◌+◌, ◌*◌, ◌/◌, ◌%◌, ◌<◌, ◌≤◌, ◌≡◌, Bool, false, not, cond, List, eqb, length, get_or}
use Rattle.masks.specs.declared.Mask.{Mask}
use Rattle.flows.specs.Flow.{no_flow}
use Rattle.widths.specs.declared.Width.TheVariants.{Unknown as Wide}
use Rattle.cells.specs.declared.Cell.{Cell}
use Rattle.description.specs.Fields.{fields_from, of_tag}
use Rattle.words.specs.Layout.{cell_at}
use Rattle.definition.specs.Module.{Native, module_of}
use Rattle.definition.specs.Data.{is_body}
use Rattle.definition.specs.Leaves.{streams}
use Rattle.definition.specs.Start.{init_mask, has_site}
use Rattle.form_laws.specs.Places.{Placed, places, no_place}
use Rattle.form_laws.specs.Good.{Good, chunk_no, no_shape, row_cells, words_of}
use Rattle.layout.specs.declared.Tables.{Tables}
use Rattle.layout.specs.declared.Chunk.{Chunk as ChunkNumbers}
use Rattle.layout.specs.Layout.{numbers_at, slot_at, input_at, rows_at, row_at, row_field, word_count, word_inputs, word_locals, word_params, word_reachable, word_rows, word_stack, word_streams, word_suspends}

abbrev pub no_native : Native
no_native = record { shape = no_shape; snapshot = false }

abbrev pub bit : Bool → ℕ
bit b = cond b 1 0

-- the numbers that every taking uses; the queue begins behind W
unfoldable pub tables_of : List ℕ → Tables
tables_of s =
    record {
      chunks = length (module_of s).chunks;
      signatures = (module_of s).signatures;
      entry = (module_of s).entry;
      slots = (module_of s).slots;
      float = (module_of s).float;
      handle = (module_of s).handle;
      owns = (module_of s).owns;
      layout = (module_of s).layout;
      natives_at = get_or (of_tag 5 s (fields_from s 0)) 0 0;
      natives = length (module_of s).natives;
      shared_at = get_or (of_tag 6 s (fields_from s 0)) 0 0;
      shared = length (module_of s).shared;
      inits = length (module_of s).inits;
      past_placed = is_body (module_of s) (module_of s).slots;
      queue_at = words_of (module_of s);
    }

unfoldable pub chunk_place : List ℕ → ℕ → Placed
chunk_place s n = get_or (places s) n no_place

-- which chunks suspend stands among their numbers
unfoldable pub suspends_at : List ℕ → ℕ → Bool
suspends_at ws n = not (eqb (get_or ws (numbers_at n + word_suspends) 0) 0)

-- the numbers of the chunk n
unfoldable pub chunk_at : List ℕ → List ℕ → ℕ → ChunkNumbers
chunk_at s ws n =
    let m = module_of s in
    let c = chunk_no m n in
    record {
      at = (chunk_place s n).at;
      rows = rows_at m n;
      count = length c.code;
      locals = c.locals;
      stack = c.stack;
      reachable = c.reachable;
      suspends = suspends_at ws n;
      inputs = input_at m n 0;
      params = length c.params;
      streams = streams m c;
      size = 16 * row_cells c;
    }

pub record NumbersHold (s ws : List ℕ) (n : ℕ) : Type 0 where
  pub at : get_or ws (numbers_at n) 0 ≡ (chunk_place s n).at
  pub rows : get_or ws (numbers_at n + word_rows) 0 ≡ rows_at (module_of s) n
  pub count : get_or ws (numbers_at n + word_count) 0 ≡ length (chunk_no (module_of s) n).code
  pub locals : get_or ws (numbers_at n + word_locals) 0 ≡ (chunk_no (module_of s) n).locals
  pub stack : get_or ws (numbers_at n + word_stack) 0 ≡ (chunk_no (module_of s) n).stack
  pub reachable : get_or ws (numbers_at n + word_reachable) 0 ≡ bit (chunk_no (module_of s) n).reachable
  pub inputs : get_or ws (numbers_at n + word_inputs) 0 ≡ input_at (module_of s) n 0
  pub params : get_or ws (numbers_at n + word_params) 0 ≡ length (chunk_no (module_of s) n).params
  pub streams : get_or ws (numbers_at n + word_streams) 0 ≡ bit (streams (module_of s) (chunk_no (module_of s) n))

-- the index: what `fill` leaves and nothing changes until the call ends
pub record Indexed (s ws : List ℕ) : Type 0 where
  pub good : Good s (words_of (module_of s))
  pub room : words_of (module_of s) ≤ length ws
  pub numbers : (n : ℕ) → n < length (module_of s).chunks → NumbersHold s ws n
  pub fields : (n i : ℕ) → n < length (module_of s).chunks → i < length (chunk_no (module_of s) n).code
      → get_or ws (row_at (module_of s) n i + row_field) 0 ≡ get_or (chunk_place s n).code i 0
  -- the mark of a placement stands above the writes of a round
  pub marks : (n : ℕ) → n < (module_of s).slots → get_or ws (slot_at (module_of s) n + 15) 0 / 65536 ≡ bit (is_body (module_of s) n)

-- a slot before the rounds: its initializer's mask, no flow
abbrev pub fresh_slot : Mask → Cell
fresh_slot k = record { mask = k; width = Wide; flow = no_flow }

-- what the filling leaves beside the index
pub record Fresh (s ws : List ℕ) : Type 0 where
  pub suspends : (n : ℕ) → n < length (module_of s).chunks → suspends_at ws n ≡ has_site (chunk_no (module_of s) n).code
  pub slots : (n : ℕ) → n < (module_of s).slots → cell_at ws (slot_at (module_of s) n) ≡ fresh_slot (init_mask (module_of s) n)
  pub unwritten : (n : ℕ) → n < (module_of s).slots → get_or ws (slot_at (module_of s) n + 15) 0 % 65536 ≡ 0
