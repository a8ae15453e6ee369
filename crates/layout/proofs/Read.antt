-- What the code reads in the index is what the description has.
use Prim.Native.Nat.{ℕ, ◌+◌, ◌*◌, ◌/◌, ◌<◌, ◌≤◌}
use mathlib.Core.Path.{◌≡◌, refl, ap, ◌∙◌}
use mathlib.Core.Bool.{Bool, true, false, not}
use mathlib.Core.List.{List}
use native.Mathlib.Omega.{arith}
use borrow.Author.Tests.{lt-ltb, le-ltb}
use lib.Dec.{eqb, ltb}
use lib.ListN.{length, get_or}
use Rattle.le.specs.Le.{at8}
use Rattle.description.specs.Fields.{fields_from, of_tag, param_of, result_of, instr_of}
use Rattle.definition.specs.Module.{Line, line_of, site_of, native_of, module_of}
use Rattle.definition.specs.Data.{is_body}
use Rattle.definition.specs.Leaves.{streams, line_at}
use Rattle.form_laws.proofs.Chunks.{line-placed, place_in, line-in, tag_in}
use Rattle.form_laws.proofs.Placed.{param-placed, result-placed, natives-count, native-placed, shared-count, shared-placed}
use Rattle.form_laws.specs.Good.{Good, no_shape, chunk_no, row_cells}
use Rattle.layout.specs.declared.Tables.{Tables}
use Rattle.layout.specs.declared.Chunk.{Chunk as ChunkNumbers}
use Rattle.layout.specs.Layout.{numbers_at, slot_at, input_at, result_at, row_at, word_reachable, word_streams, word_suspends, head_words}
use Rattle.layout.specs.Indexed.{Indexed, NumbersHold, bit, no_native, tables_of, suspends_at, chunk_place, chunk_at}
use Rattle.layout.proofs.Apart.{numbers-in, slots-in, row_in}
use Rattle.layout.specs.Read.{chunk_read}

-- ---- the index is within the workspace, and its addresses are small
module _ (s ws : List ℕ) (x : Indexed s ws) where
  pub numbers-room : (n : ℕ) → n < length (module_of s).chunks → numbers_at n + 16 ≤ length ws
  numbers-room n h = omega (arith, numbers-in (module_of s) n h, x.room)

  pub slot-room : (n : ℕ) → n < (module_of s).slots → slot_at (module_of s) n + 16 ≤ length ws
  slot-room n h = omega (arith, slots-in (module_of s) n h, x.room)

  pub row_room : (n i : ℕ) → n < length (module_of s).chunks → i < length (chunk_no (module_of s) n).code
      → row_at (module_of s) n i + 16 * row_cells (chunk_no (module_of s) n) ≤ length ws
  row_room n i h l = omega (arith, row_in (module_of s) n i h l, x.room)

  pub row_small : (n i : ℕ) → n < length (module_of s).chunks → i < length (chunk_no (module_of s) n).code
      → row_at (module_of s) n i + 16 * row_cells (chunk_no (module_of s) n) < 4294967296
  row_small n i h l = omega (arith, row_in (module_of s) n i h l, x.good.small)

-- ---- flags
bit-back : (b : Bool) → not (eqb (bit b) 0) ≡ b
bit-back true = refl
bit-back false = refl

pub flag-back : (w : ℕ) (b : Bool) → w ≡ bit b → not (eqb w 0) ≡ b
flag-back w b e = ap (λ (n : ℕ). not (eqb n 0)) e ∙ bit-back b

-- the mark of a placement, above the writes of a round
pub mark-back : (w : ℕ) (b : Bool) → w / 65536 ≡ bit b → ltb 65535 w ≡ b
mark-back w true e = lt-ltb 65535 w (omega arith)
mark-back w false e = le-ltb 65535 w (omega arith)

pub chunk_read_lem : (s ws : List ℕ) (n : ℕ) → NumbersHold s ws n → chunk_read ws (numbers_at n) ≡ chunk_at s ws n
unfolding chunk_read chunk_at suspends_at
chunk_read_lem s ws n h =
    let r = flag-back (get_or ws (numbers_at n + word_reachable) 0) (chunk_no (module_of s) n).reachable h.reachable in
    let t = flag-back (get_or ws (numbers_at n + word_streams) 0) (streams (module_of s) (chunk_no (module_of s) n)) h.streams in
    λ i. record {
      at = h.at i;
      rows = h.rows i;
      count = h.count i;
      locals = h.locals i;
      stack = h.stack i;
      reachable = r i;
      suspends = not (eqb (get_or ws (numbers_at n + word_suspends) 0) 0);
      inputs = h.inputs i;
      params = h.params i;
      streams = t i;
      size = 16 * (h.locals i + h.stack i + 6);
    }

-- ---- addresses from the numbers of a chunk
module _ (s ws : List ℕ) (n : ℕ) (ch : ChunkNumbers) (e : ch ≡ chunk_at s ws n) where
  pub row_is : (i : ℕ) → ch.rows + i * ch.size ≡ row_at (module_of s) n i
  unfolding chunk_at row_at
  row_is i = ap (λ (c : ChunkNumbers). c.rows + i * c.size) e

  pub input-is : (k : ℕ) → ch.inputs + 16 * k ≡ input_at (module_of s) n k
  unfolding chunk_at input_at
  input-is k = omega (arith, ap (λ (c : ChunkNumbers). c.inputs) e)

  pub result-is : ch.inputs + 16 * ch.params ≡ result_at (module_of s) n
  unfolding chunk_at input_at result_at
  result-is = omega (arith, ap (λ (c : ChunkNumbers). c.inputs) e, ap (λ (c : ChunkNumbers). c.params) e)

  pub count-is : ch.count ≡ length (chunk_no (module_of s) n).code
  unfolding chunk_at
  count-is = ap (λ (c : ChunkNumbers). c.count) e

  pub stack_is : ch.stack ≡ (chunk_no (module_of s) n).stack
  unfolding chunk_at
  stack_is = ap (λ (c : ChunkNumbers). c.stack) e

  pub locals-is : ch.locals ≡ (chunk_no (module_of s) n).locals
  unfolding chunk_at
  locals-is = ap (λ (c : ChunkNumbers). c.locals) e

  pub params_is : ch.params ≡ length (chunk_no (module_of s) n).params
  unfolding chunk_at
  params_is = ap (λ (c : ChunkNumbers). c.params) e

  pub place_is : ch.at ≡ (chunk_place s n).at
  unfolding chunk_at
  place_is = ap (λ (c : ChunkNumbers). c.at) e

-- the row of the instruction i
pub record Row (s ws : List ℕ) (n : ℕ) (ch : ChunkNumbers) (i : ℕ) : Type 0 where
  pub at : ch.rows + i * ch.size ≡ row_at (module_of s) n i
  pub there : i < length (chunk_no (module_of s) n).code
  pub room : row_at (module_of s) n i + 16 * row_cells (chunk_no (module_of s) n) ≤ length ws
  pub small : row_at (module_of s) n i + 16 * row_cells (chunk_no (module_of s) n) < 4294967296

pub row-known : (s ws : List ℕ) (n : ℕ) (ch : ChunkNumbers) (i : ℕ) → Indexed s ws → n < length (module_of s).chunks → ch ≡ chunk_at s ws n
    → i < ch.count → Row s ws n ch i
row-known s ws n ch i x h e l =
    let t : i < length (chunk_no (module_of s) n).code = omega (arith, count-is s ws n ch e) in
    record { at = row_is s ws n ch e i; there = t; room = row_room s ws x n i h t; small = row_small s ws x n i h t }

-- ---- what stands in the description, by the places of the chunk n
module _ (s : List ℕ) (n : ℕ) (h : n < length (module_of s).chunks) where
  -- the fields begin within the description
  pub place-small : (chunk_place s n).at < length s
  unfolding chunk_place
  place-small = (place_in s n h).below

  pub field-small : (i : ℕ) → i < length (chunk_no (module_of s) n).code → get_or (chunk_place s n).code i 0 < length s
  unfolding chunk_place
  field-small i l = (line-in s n i l).below

  pub param_is : (k : ℕ) → k < length (chunk_no (module_of s) n).params → get_or (chunk_no (module_of s) n).params k no_shape ≡ param_of s (chunk_place s n).at k
  unfolding chunk_place
  param_is k l = param-placed s n k h l

  pub declared-is : (chunk_no (module_of s) n).result ≡ result_of s (chunk_place s n).at
  unfolding chunk_place
  declared-is = result-placed s n h

  pub line-is : (i : ℕ) → i < length (chunk_no (module_of s) n).code → line_at (chunk_no (module_of s) n) i ≡ line_of s (get_or (chunk_place s n).code i 0)
  unfolding chunk_place
  line-is i l = line-placed s n i l

  pub instr-is : (i : ℕ) → i < length (chunk_no (module_of s) n).code → (line_at (chunk_no (module_of s) n) i).instr ≡ instr_of s (get_or (chunk_place s n).code i 0)
  unfolding line_of
  instr-is i l = ap (λ (x : Line). x.instr) (line-is i l)

  pub site-is : (i : ℕ) → i < length (chunk_no (module_of s) n).code → (line_at (chunk_no (module_of s) n) i).site ≡ site_of s (get_or (chunk_place s n).code i 0)
  unfolding line_of
  site-is i l = ap (λ (x : Line). x.site) (line-is i l)

-- ---- the tables
module _ (s : List ℕ) (t : Tables) (e : t ≡ tables_of s) where
  pub chunks-are : t.chunks ≡ length (module_of s).chunks
  unfolding tables_of
  chunks-are = ap (λ (x : Tables). x.chunks) e

  pub slots-are : t.slots ≡ (module_of s).slots
  unfolding tables_of
  slots-are = ap (λ (x : Tables). x.slots) e

  pub signatures-are : t.signatures ≡ (module_of s).signatures
  unfolding tables_of
  signatures-are = ap (λ (x : Tables). x.signatures) e

  pub entry-is : t.entry ≡ (module_of s).entry
  unfolding tables_of
  entry-is = ap (λ (x : Tables). x.entry) e

  pub float_is : t.float ≡ (module_of s).float
  unfolding tables_of
  float_is = ap (λ (x : Tables). x.float) e

  pub handle-is : t.handle ≡ (module_of s).handle
  unfolding tables_of
  handle-is = ap (λ (x : Tables). x.handle) e

  pub shared-are : t.shared ≡ length (module_of s).shared
  unfolding tables_of
  shared-are = ap (λ (x : Tables). x.shared) e

  pub natives-are : t.natives ≡ length (module_of s).natives
  unfolding tables_of
  natives-are = ap (λ (x : Tables). x.natives) e

  pub past_is : t.past_placed ≡ is_body (module_of s) (module_of s).slots
  unfolding tables_of
  past_is = ap (λ (x : Tables). x.past_placed) e

  pub slot_is : (n : ℕ) → head_words + 16 * t.chunks + 16 * n ≡ slot_at (module_of s) n
  unfolding slot_at
  slot_is n = omega (arith, chunks-are)

  module _ (w : ℕ) (g : Good s w) where
    -- the field of a native, and of a shared slot
    pub native-at : (k : ℕ) → k < t.natives → get_or (of_tag 5 s (fields_from s 0)) k 0 ≡ t.natives_at + 11 * k
    unfolding tables_of
    native-at k h = omega (arith, g.native_at k (omega (arith, natives-are)), ap (λ (x : Tables). x.natives_at) e)

    pub native-small : (k : ℕ) → k < t.natives → t.natives_at + 11 * k < length s
    native-small k h = omega (arith, native-at k h, (tag_in s 5 k (omega (arith, natives-are, natives-count s))).below)

    pub native-is : (k : ℕ) → k < t.natives → get_or (module_of s).natives k no_native ≡ native_of s (t.natives_at + 11 * k)
    native-is k h = native-placed s k no_native (omega (arith, natives-are)) ∙ ap (native_of s) (native-at k h)

    pub shared-at : (k : ℕ) → k < t.shared → get_or (of_tag 6 s (fields_from s 0)) k 0 ≡ t.shared_at + 4 * k
    unfolding tables_of
    shared-at k h = omega (arith, g.shared_at k (omega (arith, shared-are)), ap (λ (x : Tables). x.shared_at) e)

    pub shared-small : (k : ℕ) → k < t.shared → t.shared_at + 4 * k < length s
    shared-small k h = omega (arith, shared-at k h, (tag_in s 6 k (omega (arith, shared-are, shared-count s))).below)

    pub shared-is : (k : ℕ) → k < t.shared → get_or (module_of s).shared k 0 ≡ at8 s (t.shared_at + 4 * k + 3)
    shared-is k h = shared-placed s k (omega (arith, shared-are)) ∙ ap (λ (p : ℕ). at8 s (p + 3)) (shared-at k h)

-- the cell of the slot n
pub record Slot (s ws : List ℕ) (t : Tables) (n : ℕ) : Type 0 where
  pub at : head_words + 16 * t.chunks + 16 * n ≡ slot_at (module_of s) n
  pub there : n < (module_of s).slots
  pub room : slot_at (module_of s) n + 16 ≤ length ws
  pub small : slot_at (module_of s) n + 16 < 4294967296
  pub mark : ltb 65535 (get_or ws (slot_at (module_of s) n + 15) 0) ≡ is_body (module_of s) n

pub slot-known : (s ws : List ℕ) (t : Tables) (n : ℕ) → Indexed s ws → t ≡ tables_of s → n < t.slots → Slot s ws t n
slot-known s ws t n x e h =
    let l : n < (module_of s).slots = omega (arith, slots-are s t e) in
    record {
      at = slot_is s t e n;
      there = l;
      room = slot-room s ws x n l;
      small = omega (arith, slots-in (module_of s) n l, x.good.small);
      mark = mark-back (get_or ws (slot_at (module_of s) n + 15) 0) (is_body (module_of s) n) (x.marks n l);
    }
