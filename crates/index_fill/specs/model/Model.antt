-- The walk that fills the index, as functions of the fields: what each field writes, and what the walk knows behind it.
use Rattle.std.specs.Prelude.{ℕ, zero, suc, ◌+◌, ◌*◌, ◌/◌, ◌%◌, ◌^◌, Bool, false, cond, ◌&&◌, ◌||◌, List, [], ◌∷◌, eqb, ltb, get_or, set}
use Rattle.le.specs.Le.{at16}
use Rattle.masks.specs.declared.Mask.{Mask}
use Rattle.description.specs.Fields.{tag_at, next_at, header_of, chunk_of, fields_from}
use Rattle.words.specs.Layout.{put_n}
use Rattle.definition.specs.Module.{flag, signed_params, init_of}
use Rattle.layout.specs.declared.Tables.{Tables}
use Rattle.layout.specs.declared.Chunk.{Chunk}
use Rattle.layout.specs.Layout.{numbers_at, row_field, word_count, word_suspends, head_words}
use Rattle.layout.specs.Indexed.{bit}
use Rattle.index_fill.specs.declared.model.FillState.{FillState}

-- ---- before the first field
unfoldable pub first_tables : List ℕ → ℕ → Tables
first_tables s queue =
    let h = header_of s 0 in
    record {
      chunks = h.chunks;
      signatures = h.signatures;
      entry = h.entry;
      slots = h.slots;
      float = 2 ^ h.float / 8;
      handle = h.handle;
      owns = flag h.owns;
      layout = flag h.layout;
      natives_at = 0;
      natives = 0;
      shared_at = 0;
      shared = 0;
      inits = 0;
      past_placed = false;
      queue_at = queue;
    }

-- the first free word: behind the cells of the chunks' numbers and of the slots
abbrev pub areas : Tables → ℕ
areas t = head_words + 16 * (t.chunks + t.slots)

unfoldable pub first_work : Tables → Bool → FillState
first_work t keep = record { seen = 0; numbers = 0; instrs = 0; free = areas t; size = 0; keep = keep }

-- ---- tags 2 to 4: the chunks' numbers and rows
abbrev pub params_in : List ℕ → ℕ → Tables → FillState → ℕ
params_in s p t w = signed_params s p (ltb w.seen t.signatures)

unfoldable pub numbers_of : List ℕ → ℕ → Tables → FillState → Chunk
numbers_of s p t w =
    let h = chunk_of s p in
    record {
      at = p;
      rows = w.free + 16 * (params_in s p t w + 1);
      count = 0;
      locals = h.locals;
      stack = h.stack;
      reachable = flag h.reachable;
      suspends = false;
      inputs = w.free;
      params = params_in s p t w;
      streams = eqb w.seen t.entry && (eqb h.block 2 && ltb 0 h.arity);
      size = 16 * (h.locals + h.stack + 6);
    }

unfoldable pub number_words : Chunk → List ℕ
number_words c =
    c.at
    ∷ c.rows
    ∷ c.count
    ∷ c.locals
    ∷ c.stack
    ∷ bit c.reachable
    ∷ bit c.suspends
    ∷ c.inputs
    ∷ c.params
    ∷ bit c.streams
    ∷ []

unfoldable pub chunk_words : List ℕ → ℕ → Tables → FillState → List ℕ → List ℕ
chunk_words s p t w ws = put_n ws (numbers_at w.seen) (number_words (numbers_of s p t w)) 10

unfoldable pub chunk_work : List ℕ → ℕ → Tables → FillState → FillState
chunk_work s p t w =
    record {
      seen = suc w.seen;
      numbers = numbers_at w.seen;
      instrs = 0;
      free = (numbers_of s p t w).rows;
      size = (numbers_of s p t w).size;
      keep = w.keep;
    }

-- the place of the instruction's field stands in its row
unfoldable pub instr_words : ℕ → FillState → List ℕ → List ℕ
instr_words p w ws = set (set ws (w.free + row_field) p) (w.numbers + word_count) (w.instrs + 1)

unfoldable pub instr_work : FillState → FillState
instr_work w =
    record { seen = w.seen; numbers = w.numbers; instrs = w.instrs + 1; free = w.free + w.size; size = w.size; keep = w.keep }

-- a chunk with a dialogue site suspends
unfoldable pub site_words : FillState → List ℕ → List ℕ
site_words w ws = set ws (w.numbers + word_suspends) 1

unfoldable pub code_words : ℕ → List ℕ → ℕ → Tables → FillState → List ℕ → List ℕ
code_words tag s p t w ws =
    cond (eqb tag 2) (chunk_words s p t w ws)
    (cond (eqb tag 3) (instr_words p w ws)
    (cond (eqb tag 4) (site_words w ws) ws))

unfoldable pub code_work : ℕ → List ℕ → ℕ → Tables → FillState → FillState
code_work tag s p t w = cond (eqb tag 2) (chunk_work s p t w) (cond (eqb tag 3) (instr_work w) w)

-- ---- tags 7 and 8: the slots
abbrev pub slot_of : Tables → ℕ → ℕ
slot_of t n = head_words + 16 * t.chunks + 16 * n

-- the mark of a placement stands above the writes of a round
abbrev pub slot_marked : ℕ → ℕ
slot_marked n = n % 65536 + 65536

unfoldable pub mark_words : Tables → ℕ → List ℕ → List ℕ
mark_words t n ws = cond (ltb n t.slots) (set ws (slot_of t n + 15) (slot_marked (get_or ws (slot_of t n + 15) 0))) ws

-- no mark in the first n slots
unfoldable pub unmarked_words : Tables → ℕ → List ℕ → List ℕ
unmarked_words t zero ws = ws
unmarked_words t (suc n) ws =
    let v = unmarked_words t n ws in
    set v (slot_of t n + 15) (get_or v (slot_of t n + 15) 0 % 65536)

unfoldable pub init_words : Tables → Mask → List ℕ → List ℕ
init_words t m ws = cond (ltb (t.shared + t.inits) t.slots) (set ws (slot_of t (t.shared + t.inits)) m.bits) ws

unfoldable pub slot_words : ℕ → List ℕ → ℕ → Tables → Bool → List ℕ → List ℕ
slot_words tag s p t keep ws =
    cond (eqb tag 7) (mark_words t (at16 s (p + 3)) ws) (cond (eqb tag 8) (cond keep ws (init_words t (init_of s p) ws)) ws)

-- ---- tags 5 to 8: the tables
-- the place of the first of them
abbrev pub first_at : Bool → ℕ → ℕ → ℕ → ℕ
first_at here count p at = cond here (cond (eqb count 0) p at) at

abbrev pub one_more : Bool → ℕ → ℕ
one_more here n = cond here (n + 1) n

unfoldable pub tables_after : ℕ → List ℕ → ℕ → Tables → Tables
tables_after tag s p t =
    record {
      chunks = t.chunks;
      signatures = t.signatures;
      entry = t.entry;
      slots = t.slots;
      float = t.float;
      handle = t.handle;
      owns = t.owns;
      layout = t.layout;
      natives_at = first_at (eqb tag 5) t.natives p t.natives_at;
      natives = one_more (eqb tag 5) t.natives;
      shared_at = first_at (eqb tag 6) t.shared p t.shared_at;
      shared = one_more (eqb tag 6) t.shared;
      inits = one_more (eqb tag 8) t.inits;
      past_placed = cond (eqb tag 7) (t.past_placed || eqb (at16 s (p + 3)) t.slots) t.past_placed;
      queue_at = t.queue_at;
    }

-- ---- a field, and all from here on
unfoldable pub words_after : List ℕ → ℕ → Tables → FillState → List ℕ → List ℕ
words_after s p t w ws = slot_words (tag_at s p) s p t w.keep (code_words (tag_at s p) s p t w ws)

unfoldable pub words_from : List ℕ → List ℕ → Tables → FillState → List ℕ → List ℕ
words_from s [] t w ws = ws
words_from s (p ∷ ps) t w ws =
    words_from s ps (tables_after (tag_at s p) s p t) (code_work (tag_at s p) s p t w) (words_after s p t w ws)

-- all fields behind the header
unfoldable pub walked_words : List ℕ → ℕ → Bool → List ℕ → List ℕ
walked_words s queue keep ws =
    words_from s (fields_from s (next_at s 0)) (first_tables s queue) (first_work (first_tables s queue) keep) ws

unfoldable pub tables_from : List ℕ → List ℕ → Tables → Tables
tables_from s [] t = t
tables_from s (p ∷ ps) t = tables_from s ps (tables_after (tag_at s p) s p t)
