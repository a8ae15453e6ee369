-- The largest values of document 01, each once: "chunks 64, signatures as many as chunks, instructions a chunk 4,096, L 256, D 64,
-- `param_count`, type tags and parameter shapes 16 each, taken 64, given 4, slots 1,024, natives 256, fields of tags 6, 7 and 8 1,024 each,
-- `float_bits_log2` 31, an operand's composite kind 3, its scalar kind 255, kind bytes of shapes and shared slots 255, operands as wide as
-- 001 has them, a description 1,048,576 bytes (looked at first). 64 chunks pass, 65 is refused."
use Rattle.std.specs.Prelude.{ℕ}

abbrev pub most_bytes : ℕ
most_bytes = 1048576

-- ---- the header
abbrev pub most_float : ℕ
most_float = 31

abbrev pub most_chunks : ℕ
most_chunks = 64

abbrev pub most_slots : ℕ
most_slots = 1024

-- ---- a chunk: L, D, `param_count`, type tags, parameter shapes, instructions
abbrev pub most_locals : ℕ
most_locals = 256

abbrev pub most_stack : ℕ
most_stack = 64

abbrev pub most_arity : ℕ
most_arity = 16

abbrev pub most_tags : ℕ
most_tags = 16

abbrev pub most_params : ℕ
most_params = 16

abbrev pub most_instrs : ℕ
most_instrs = 4096

-- ---- an instruction
abbrev pub most_taken : ℕ
most_taken = 64

abbrev pub most_given : ℕ
most_given = 4

abbrev pub most_scalar_kind : ℕ
most_scalar_kind = 255

abbrev pub most_composite_kind : ℕ
most_composite_kind = 3

-- in 001 a local, a target, a callee, a native and a size are u16, an immediate is u8
abbrev pub most_operand : ℕ
most_operand = 65535

abbrev pub most_immediate : ℕ
most_immediate = 255

-- ---- the tables: natives, and fields of each of the tags 6, 7 and 8
abbrev pub most_natives : ℕ
most_natives = 256

abbrev pub most_fields : ℕ
most_fields = 1024
