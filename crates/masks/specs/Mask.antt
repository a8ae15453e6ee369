-- Masks of value kinds, as types.rs has them: `scalar`, `body`, `kind`, `operand_kind`, `constant`, and the mask of an immediate. `operand_kind` is
-- written as document 02, Five, has it: `operand_kind`, a list of cases. The text of types.rs stands beside it as `operand_counted`.
use Rattle.std.specs.Prelude.{ℕ, ◌^◌, ◌*◌, Bool, cond, not, ◌&&◌, eqb, ltb}
use Rattle.std.specs.Int.Bits.{bit_or, bit_and}
use Rattle.std.specs.Int.Count.{ones}
use Rattle.masks.specs.declared.Mask.{Mask}
use Rattle.masks.specs.declared.OperandKind.{OperandKind}
use Rattle.masks.specs.declared.OperandKind.TheVariants.{Int, Fixed, Float, Unknown}
use Rattle.masks.specs.Names.{UNIT, FALSE, BYTE, WORD, FIXED, FLOAT, TEXT, OPAQUE, TUPLE, ARRAY, STRUCT, ENUM, TRUE, BOOL, BODY, UNKNOWN, FOLDED}
pub use Rattle.masks.specs.Names.{of}

-- the mask of a scalar kind: kind 1 is both Bools, a kind past 7 may be anything
unfoldable pub scalar : ℕ → Mask
scalar k = cond (eqb k 1) BOOL (cond (ltb k 8) (of (2 ^ k)) UNKNOWN)

-- the mask of a composite kind: past 3 it may be any body
unfoldable pub body : ℕ → Mask
body k = cond (ltb k 4) (of (256 * 2 ^ k)) BODY

-- TRUE folded into FALSE
unfoldable pub kind : Mask → Mask
kind m = of (bit_or (bit_and m.bits FOLDED.bits) (cond (eqb (bit_and m.bits TRUE.bits) 0) 0 FALSE.bits))

abbrev pub union : Mask → Mask → Mask
union m n = of (bit_or m.bits n.bits)

abbrev pub common : Mask → Mask → Mask
common m n = of (bit_and m.bits n.bits)

abbrev pub has : Mask → Mask → Bool
has m n = not (eqb (bit_and m.bits n.bits) 0)

-- every kind of m is one of n
abbrev pub within : Mask → Mask → Bool
within m n = eqb (bit_and m.bits n.bits) m.bits

abbrev pub same : Mask → Mask → Bool
same m n = eqb m.bits n.bits

-- of one kind: exactly one set bit, TRUE folded into FALSE
unfoldable pub one_kind : Mask → Bool
one_kind m = eqb (ones (kind m).bits) 1

-- the class of an operand with the folded mask k: a line for each single bit. 4096 has none, since folding takes it away. 8192, 16384 and 32768
-- are no kinds and stand above UNKNOWN; they are here because a u16 has room for them and types.rs counts a lone one as one kind
unfoldable pub operand_cases : Mask → OperandKind
operand_cases k =
    cond (same k UNIT) Int
    (cond (same k FALSE) Int
    (cond (same k BYTE) Int
    (cond (same k WORD) Int
    (cond (same k FIXED) Fixed
    (cond (same k FLOAT) Float
    (cond (same k TEXT) Int
    (cond (same k OPAQUE) Int
    (cond (same k TUPLE) Int
    (cond (same k ARRAY) Int
    (cond (same k STRUCT) Int
    (cond (same k ENUM) Int
    (cond (same k (of 8192)) Int
    (cond (same k (of 16384)) Int
    (cond (same k (of 32768)) Int
    Unknown))))))))))))))

unfoldable pub operand_kind : Mask → OperandKind
operand_kind m = operand_cases (kind m)

-- `operand_kind` as types.rs has it, by the count of ones
unfoldable pub operand_counted : Mask → OperandKind
operand_counted m =
    cond (same (kind m) FLOAT) Float
    (cond (same (kind m) FIXED) Fixed
    (cond (one_kind m) Int Unknown))

-- the mask of a constant, by its place in ConstValue
unfoldable pub constant : ℕ → Bool → Mask
constant place truth =
    cond (eqb place 0) UNIT
    (cond (eqb place 1) (cond truth TRUE FALSE)
    (cond (eqb place 2) WORD
    (cond (eqb place 3) BYTE
    (cond (eqb place 4) FIXED
    (cond (eqb place 5) FLOAT
    (cond (eqb place 6) TEXT
    (cond (eqb place 7) TUPLE
    (cond (eqb place 8) ARRAY
    (cond (eqb place 9) STRUCT
    (cond (eqb place 10) ENUM
    UNKNOWN))))))))))

-- 0 is Unit, 1 true, 2 false, 4 to 19 words; any other may be anything
unfoldable pub immediate : ℕ → Mask
immediate i =
    cond (eqb i 0) UNIT
    (cond (eqb i 1) TRUE
    (cond (eqb i 2) FALSE
    (cond (ltb 3 i && ltb i 20) WORD
    UNKNOWN)))
