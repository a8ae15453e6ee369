-- The names of the masks, as types.rs has them.
use Rattle.std.specs.Prelude.{ℕ}
use Rattle.masks.specs.declared.Mask.{Mask}

abbrev pub of : ℕ → Mask
of n = record { bits = n }

abbrev pub NONE : Mask
NONE = of 0

abbrev pub UNIT : Mask
UNIT = of 1

abbrev pub FALSE : Mask
FALSE = of 2

abbrev pub BYTE : Mask
BYTE = of 4

abbrev pub WORD : Mask
WORD = of 8

abbrev pub FIXED : Mask
FIXED = of 16

abbrev pub FLOAT : Mask
FLOAT = of 32

abbrev pub TEXT : Mask
TEXT = of 64

abbrev pub OPAQUE : Mask
OPAQUE = of 128

abbrev pub TUPLE : Mask
TUPLE = of 256

abbrev pub ARRAY : Mask
ARRAY = of 512

abbrev pub STRUCT : Mask
STRUCT = of 1024

abbrev pub ENUM : Mask
ENUM = of 2048

abbrev pub TRUE : Mask
TRUE = of 4096

abbrev pub BOOL : Mask
BOOL = of 4098

abbrev pub BODY : Mask
BODY = of 3840

abbrev pub UNKNOWN : Mask
UNKNOWN = of 8191

-- the kinds of BYTE, FIXED and FLOAT; of WORD and FIXED; of BYTE, WORD and FIXED; of BYTE, WORD, FIXED and FLOAT
abbrev pub MIXED : Mask
MIXED = of 52

abbrev pub EXACT : Mask
EXACT = of 24

abbrev pub WHOLE : Mask
WHOLE = of 28

abbrev pub NUMERIC : Mask
NUMERIC = of 60

-- the fallback of an indexed read: UNIT, BYTE and WORD
abbrev pub FALLBACK : Mask
FALLBACK = of 13

-- UNIT, BOOL, BYTE, WORD, FIXED and FLOAT
abbrev pub SCALARS : Mask
SCALARS = of 4159

-- those and BODY: what a guard can tell apart
abbrev pub GUARDED : Mask
GUARDED = of 7999

-- every kind but TEXT, TRUE folded into FALSE: what can be packed
abbrev pub PACKED : Mask
PACKED = of 4031

-- the bits that stay where TRUE is folded into FALSE: every bit but that of TRUE
abbrev pub FOLDED : Mask
FOLDED = of 61439
