-- The rule of each instruction, in the order of Op in bytecode.rs.
use Rattle.std.specs.Prelude.{ℕ, List, [], ◌∷◌, get_or}
use Rattle.masks.specs.Names.{BYTE, WORD, FIXED, FLOAT, TUPLE, ARRAY, STRUCT, ENUM, BOOL, MIXED, EXACT, WHOLE, NUMERIC, FALLBACK, GUARDED}
use Rattle.ops.specs.declared.Makes.{Makes}
use Rattle.ops.specs.declared.Makes.TheVariants.{Anything, Constant, Immediate, Local, Operand, OperandMask, Reply, Result, Common, Kind, Negation, OneKind, Slots, Composite, Part, NativeValue}
use Rattle.ops.specs.declared.Others.{Others}
use Rattle.ops.specs.declared.Others.TheVariants.{Unknowns, Words, Checked, Copies, Tested, Status}
use Rattle.ops.specs.declared.Asks.{Asks}
use Rattle.ops.specs.declared.Asks.TheVariants.{Free, First, Both, Yielded, Returned, Every, Ordered, Same, Stored, PartOf, Never}
use Rattle.ops.specs.declared.Exit.{Exit}
use Rattle.ops.specs.declared.Exit.TheVariants.{Next, Stops, Jumps, Ifs, Breaks, Restarts}
use Rattle.ops.specs.declared.Acts.{Acts}
use Rattle.ops.specs.declared.Acts.TheVariants.{Still, SetsLocal, Yields, Calls, Returns, Resets, Stores}
use Rattle.ops.specs.declared.Data.{Data}
use Rattle.ops.specs.declared.Data.TheVariants.{NoSlot, OneSlot, ManySlots}
use Rattle.ops.specs.declared.Rule.{Rule}

abbrev pub ruled : Makes → Others → Asks → Exit → Acts → Data → Rule
ruled m o a x e d = record { makes = m; others = o; asks = a; exit = x; acts = e; slots = d }

-- a rule that is no more than outputs and requirements
abbrev pub plain : Makes → Others → Asks → Rule
plain m o a = ruled m o a Next Still NoSlot

-- no rule: nothing proves it
abbrev pub no_rule : Rule
no_rule = plain Anything Unknowns Never

-- one line for each place of Op, its name behind it
unfoldable pub rules : List Rule
rules =
    plain Constant Unknowns Free  -- 0 Const
    ∷ plain Local Unknowns Free  -- 1 GetLocal
    ∷ ruled Anything Unknowns Free Next SetsLocal NoSlot  -- 2 SetLocal
    ∷ ruled Slots Unknowns Free Next Still OneSlot  -- 3 GetData
    ∷ ruled (Kind WORD) Words Stored Next Stores OneSlot  -- 4 SetData
    ∷ ruled Slots Words (Both WORD FALLBACK) Next Still ManySlots  -- 5 GetDataIndexed
    ∷ ruled (Kind WORD) Words Stored Next Stores ManySlots  -- 6 SetDataIndexed
    ∷ plain (Kind WORD) Words (First WORD)  -- 7 BoundsCheck
    ∷ plain (Common MIXED) Unknowns (Every MIXED)  -- 8 Add
    ∷ plain (Common MIXED) Unknowns (Every MIXED)  -- 9 Sub
    ∷ plain (Common MIXED) Unknowns (Every MIXED)  -- 10 Mul
    ∷ plain (Common NUMERIC) Checked (Every NUMERIC)  -- 11 Div
    ∷ plain (Common NUMERIC) Checked (Every NUMERIC)  -- 12 Mod
    ∷ plain (Common MIXED) Unknowns (Every MIXED)  -- 13 Neg
    ∷ plain (Kind BOOL) Unknowns (Both GUARDED GUARDED)  -- 14 CmpEq
    ∷ plain (Kind BOOL) Unknowns (Both GUARDED GUARDED)  -- 15 CmpNe
    ∷ plain (Kind BOOL) Unknowns Ordered  -- 16 CmpLt
    ∷ plain (Kind BOOL) Unknowns Ordered  -- 17 CmpGt
    ∷ plain (Kind BOOL) Unknowns Ordered  -- 18 CmpLe
    ∷ plain (Kind BOOL) Unknowns Ordered  -- 19 CmpGe
    ∷ plain Negation Unknowns (First BOOL)  -- 20 Not
    ∷ ruled Anything Unknowns (First BOOL) Ifs Still NoSlot  -- 21 If
    ∷ ruled Anything Unknowns Free Jumps Still NoSlot  -- 22 Else
    ∷ plain Anything Unknowns Free  -- 23 EndIf
    ∷ plain Anything Unknowns Free  -- 24 Loop
    ∷ ruled Anything Unknowns Free Jumps Still NoSlot  -- 25 EndLoop
    ∷ ruled Anything Unknowns Free Jumps Still NoSlot  -- 26 Break
    ∷ ruled Anything Unknowns (First BOOL) Breaks Still NoSlot  -- 27 BreakIf
    ∷ plain Anything Unknowns Free  -- 28 Stream
    ∷ ruled Anything Unknowns Free Restarts Resets NoSlot  -- 29 Reset
    ∷ ruled Result Unknowns Free Next Calls NoSlot  -- 30 Call
    ∷ ruled Anything Unknowns Returned Stops Returns NoSlot  -- 31 Return
    ∷ ruled Reply Unknowns Yielded Next Yields NoSlot  -- 32 Yield
    ∷ plain Operand Copies Free  -- 33 Dup
    ∷ plain Composite Unknowns Free  -- 34 NewComposite
    ∷ plain Part Unknowns (PartOf STRUCT)  -- 35 GetField
    ∷ plain Part Words (Both ARRAY WORD)  -- 36 GetIndex
    ∷ plain Part Unknowns (PartOf TUPLE)  -- 37 GetTupleField
    ∷ plain Part Unknowns (PartOf ENUM)  -- 38 GetEnumField
    ∷ plain Anything Unknowns Never  -- 39 Len
    ∷ plain Operand (Tested ENUM) Free  -- 40 IsEnum
    ∷ plain Operand (Tested STRUCT) Free  -- 41 IsStruct
    ∷ plain (Kind FLOAT) Unknowns (First WORD)  -- 42 IntToFloat
    ∷ plain (Kind WORD) Unknowns (First FLOAT)  -- 43 FloatToInt
    ∷ plain (Kind BYTE) Unknowns (First WORD)  -- 44 WordToByte
    ∷ plain (Kind WORD) Unknowns (First BYTE)  -- 45 ByteToWord
    ∷ plain (Kind FIXED) Unknowns (First WORD)  -- 46 WordToFixed
    ∷ plain (Kind WORD) Unknowns (First FIXED)  -- 47 FixedToWord
    ∷ plain (Kind FIXED) Unknowns (Same FIXED)  -- 48 FixedMul
    ∷ plain (Kind FIXED) Checked (Same FIXED)  -- 49 FixedDiv
    ∷ ruled Anything Unknowns Free Stops Still NoSlot  -- 50 Trap
    ∷ plain (Common NUMERIC) Checked (Every NUMERIC)  -- 51 CheckedAdd
    ∷ plain (Common NUMERIC) Checked (Every NUMERIC)  -- 52 CheckedSub
    ∷ plain (Common NUMERIC) Checked (Every NUMERIC)  -- 53 CheckedMul
    ∷ plain (Common EXACT) Checked (Every EXACT)  -- 54 CheckedNeg
    ∷ plain (Common NUMERIC) Checked (Every NUMERIC)  -- 55 CheckedDiv
    ∷ plain (Common WHOLE) Checked (Every WHOLE)  -- 56 CheckedMod
    ∷ plain Immediate Unknowns Free  -- 57 PushImmediate
    ∷ plain Anything Unknowns Free  -- 58 PopN
    ∷ plain OneKind Unknowns (Same WORD)  -- 59 BitAnd
    ∷ plain OneKind Unknowns (Same WORD)  -- 60 BitOr
    ∷ plain OneKind Unknowns (Same WORD)  -- 61 BitXor
    ∷ plain OperandMask Unknowns (Both WORD WORD)  -- 62 Shl
    ∷ plain OperandMask Unknowns (Both WORD WORD)  -- 63 Shr
    ∷ plain NativeValue Status Free  -- 64 CallVerifiedNative
    ∷ plain NativeValue Status Free  -- 65 CallExternalNative
    ∷ []

-- a place that is none has no rule, as Len
unfoldable pub rule_of : ℕ → Rule
rule_of op = get_or rules op no_rule
