-- What good form says of the module: W is document 01's sum, the numbers keep their largest values, every instruction fits and has its bytes
-- in the description, and the tables of natives and shared slots have fields of one size from their first on.
use Rattle.std.specs.Prelude.{ℕ, ◌+◌, ◌*◌, ◌<◌, ◌≤◌, ◌≡◌, true, false, List, [], ◌∷◌, length, get_or}
use Rattle.widths.specs.declared.Shape.{Shape}
use Rattle.description.specs.Fields.{tag_at, next_at, header_of, fields_from, of_tag}
use Rattle.definition.specs.Module.{Module, Chunk, Line, module_of}
use Rattle.definition.specs.Bounds.{most_bytes, most_float, most_chunks, most_slots, most_locals, most_stack, most_arity, most_tags, most_params, most_instrs, most_taken, most_given, most_natives, most_fields}
use Rattle.definition.specs.Form.{header_len, handle_fine, fit_of, local, callee, senseless, too_large}
use Rattle.definition.specs.Leaves.{line_at}
use Rattle.definition.specs.Start.{is_site}
use Rattle.form_laws.specs.Order.{ordered}
use Rattle.ops.specs.Numbers.{op_call, op_yield}

-- the shape and the chunk that are not there
abbrev pub no_shape : Shape
no_shape = record { tag = 0; kind = 0; width = 0; size = 0 }

unfoldable pub no_chunk : Chunk
no_chunk =
    record {
      number = 0;
      reachable = false;
      block = 0;
      locals = 0;
      stack = 0;
      arity = 0;
      tags = [];
      params = [];
      result = no_shape;
      code = [];
    }

unfoldable pub chunk_no : Module → ℕ → Chunk
chunk_no m n = get_or m.chunks n no_chunk

-- ---- W
abbrev pub row_cells : Chunk → ℕ
row_cells c = c.locals + c.stack + 6

unfoldable pub chunk_cells : Chunk → ℕ
chunk_cells c = length c.code * row_cells c + length c.params + 2

unfoldable pub cells_in : List Chunk → ℕ
cells_in [] = 0
cells_in (c ∷ cs) = chunk_cells c + cells_in cs

unfoldable pub words_of : Module → ℕ
words_of m = 16 * (cells_in m.chunks + m.slots + 4)

-- ---- the instructions of all chunks, and the bytes that each has in the description: tag, length, and the fifteen of its field
unfoldable pub instrs_in : List Chunk → ℕ
instrs_in [] = 0
instrs_in (c ∷ cs) = length c.code + instrs_in cs

abbrev pub instr_bytes : ℕ
instr_bytes = 18

-- ---- an instruction that fits its module and chunk
pub record LineGood (m : Module) (c : Chunk) (x : Line) : Type 0 where
  pub op : x.instr.op ≤ 65
  pub taken : x.instr.taken ≤ most_taken
  pub given : x.instr.given ≤ most_given
  pub taken_least : (fit_of x.instr.op).taken_least ≤ x.instr.taken
  pub taken_most : x.instr.taken ≤ (fit_of x.instr.op).taken_most
  pub given_least : (fit_of x.instr.op).given_least ≤ x.instr.given
  pub given_most : x.instr.given ≤ (fit_of x.instr.op).given_most
  pub sense : senseless (fit_of x.instr.op).meaning x.instr ≡ false
  pub narrow : too_large (fit_of x.instr.op).meaning x.instr ≡ false
  pub local : (fit_of x.instr.op).meaning ≡ local → x.instr.a < c.locals
  pub callee : (fit_of x.instr.op).meaning ≡ callee → x.instr.a < m.signatures
  -- the late looks
  pub call : x.instr.op ≡ op_call → x.instr.taken ≤ length (chunk_no m x.instr.a).params
  pub yields : x.instr.op ≡ op_yield → is_site x.site ≡ true

pub record ChunkGood (m : Module) (n : ℕ) (c : Chunk) : Type 0 where
  pub number : c.number ≡ n
  pub block : c.block ≤ 2
  pub locals : c.locals ≤ most_locals
  pub stack : c.stack ≤ most_stack
  pub arity : c.arity ≤ most_arity
  pub tags : length c.tags ≤ most_tags
  pub params : length c.params ≤ most_params
  pub in_locals : length c.params ≤ c.locals
  pub unsigned : m.signatures ≤ n → length c.params ≡ 0
  pub code : length c.code ≤ most_instrs
  pub lines : (i : ℕ) → i < length c.code → LineGood m c (line_at c i)

pub record Good (s : List ℕ) (w : ℕ) : Type 0 where
  pub long : length s ≤ most_bytes
  -- the header stands first
  pub some_bytes : 0 < length s
  pub header : tag_at s 0 ≡ 1
  pub next : next_at s 0 ≡ 3 + header_len
  -- each field stands where the form check wants it
  pub order : ordered s 0 (fields_from s 0) ≡ true
  pub float : (header_of s 0).float ≤ most_float
  pub handle : handle_fine (module_of s).handle ≡ true
  pub chunks : length (module_of s).chunks ≡ (header_of s 0).chunks
  pub chunks_most : length (module_of s).chunks ≤ most_chunks
  pub signatures : (module_of s).signatures ≤ length (module_of s).chunks
  pub entry : (module_of s).entry < (module_of s).signatures
  pub slots : (module_of s).slots ≤ most_slots
  pub natives : length (module_of s).natives ≤ most_natives
  pub shared : length (module_of s).shared ≤ most_fields
  pub inits : length (module_of s).inits ≤ most_fields
  pub words : w ≡ words_of (module_of s)
  pub small : w < 4294967296
  -- so few instructions that what is said of each, 32 bits count
  pub instrs : instr_bytes * instrs_in (module_of s).chunks ≤ length s
  pub each_chunk : (n : ℕ) → n < length (module_of s).chunks → ChunkGood (module_of s) n (chunk_no (module_of s) n)
  -- fields of one size, from the first on
  pub native_at : (k : ℕ) → k < length (module_of s).natives → get_or (of_tag 5 s (fields_from s 0)) k 0 ≡ get_or (of_tag 5 s (fields_from s 0)) 0 0 + 11 * k
  pub shared_at : (k : ℕ) → k < length (module_of s).shared → get_or (of_tag 6 s (fields_from s 0)) k 0 ≡ get_or (of_tag 6 s (fields_from s 0)) 0 0 + 4 * k
