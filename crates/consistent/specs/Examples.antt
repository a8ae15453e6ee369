-- Small modules, the report of each as the definition decides on it, and reports that differ from that one in a single thing. Each of the
-- latter is refused by demand 3, for the clause that its comment names (proofs/Refuses.antt).
use Rattle.std.specs.Prelude.{ℕ, suc, true, false, List, [], ◌∷◌, ◌++◌, length, get_or, take, drop, Some}
use Rattle.std.proofs.Math.Option.{none}
use Rattle.masks.specs.declared.Mask.{Mask}
use Rattle.masks.specs.Names.{NONE, TRUE}
use Rattle.widths.specs.declared.Shape.{Shape}
use Rattle.cells.specs.declared.Cell.{Cell}
use Rattle.cells.specs.Cell.{made, declared, unit_cell}
use Rattle.definition.specs.Module.{Module, Chunk, Line, Native}
use Rattle.definition.specs.Outputs.{with_origin}
use Rattle.definition.specs.Report.{Report, Record, Signature, Inspection, Branch, report_bytes}
use Rattle.definition.specs.Call.{Decided, reported, turned, decided}
use Rattle.consistent.specs.Consistent.{fresh_slot}

-- ---- modules of chunks with two stack places
abbrev top : Shape
top = record { tag = 0; kind = 0; width = 0; size = 0 }

abbrev scalar_shape : ℕ → ℕ → Shape
scalar_shape kind size = record { tag = 1; kind = kind; width = 1; size = size }

-- op, operand a, taken, given
abbrev line : ℕ → ℕ → ℕ → ℕ → Line
line op a taken given = record { instr = record { op = op; taken = taken; given = given; a = a; b = 0; c = 0 }; site = none }

abbrev pub chunk_of : ℕ → ℕ → List Shape → Shape → List Line → Chunk
chunk_of number locals params result code =
    record {
      number = number;
      reachable = true;
      block = 0;
      locals = locals;
      stack = 2;
      arity = length params;
      tags = [];
      params = params;
      result = result;
      code = code;
    }

abbrev module_with : ℕ → List Native → List Chunk → Module
module_with slots natives chunks =
    record {
      float = 8;
      handle = 8;
      entry = 0;
      signatures = length chunks;
      layout = true;
      slots = slots;
      owns = false;
      chunks = chunks;
      natives = natives;
      shared = [];
      placed = [];
      inits = [];
    }

-- the report that the definition decides on; none where it refuses
abbrev no_report : Report
no_report = record { reply = 0; signatures = []; slots = []; records = []; inspections = []; branches = [] }

unfoldable report_in : Decided → Report
report_in (reported r n) = r
report_in (turned x) = no_report

unfoldable pub right : Module → Report
unfolding report_in
right m = report_in (decided m 8 100)

abbrev with_records : Report → List Record → Report
with_records r xs =
    record { reply = r.reply; signatures = r.signatures; slots = r.slots; records = xs; inspections = r.inspections; branches = r.branches }

-- ---- a test of what a native says, one value for each way, and an instruction that nothing reaches
abbrev pub testing : Chunk
testing =
    chunk_of 0 1 [] top
    (line 65 0 0 1  -- 0 CallExternalNative
    ∷ line 21 4 1 0  -- 1 If, to 4
    ∷ line 57 2 0 1  -- 2 PushImmediate
    ∷ line 22 5 0 0  -- 3 Else, to 5
    ∷ line 57 3 0 1  -- 4 PushImmediate
    ∷ line 31 0 0 0  -- 5 Return
    ∷ line 50 0 0 0  -- 6 Trap
    ∷ [])

abbrev pub tests : Module
tests = module_with 0 (record { shape = scalar_shape 1 1; snapshot = false } ∷ []) (testing ∷ [])

abbrev records : List Record
records = (right tests).records

-- without the record of instruction 2, to which control passes from the test
abbrev pub missing : Report
missing = with_records (right tests) (take 2 records ++ drop 3 records)

-- a second record of the test, in which its condition is TRUE, and with it a known branch
abbrev second : Record
second = record { chunk = 0; instruction = 1; stack = made TRUE 8 ∷ []; locals = unit_cell ∷ []; outputs = []; guards = [] }

abbrev pub twice : Report
twice =
    record {
      reply = (right tests).reply;
      signatures = (right tests).signatures;
      slots = (right tests).slots;
      records = take 2 records ++ (second ∷ drop 2 records);
      inspections = (right tests).inspections;
      branches = record { chunk = 0; instruction = 1; value = 1 } ∷ [];
    }

-- a record more, of the instruction that nothing reaches: as it would be there; with a stack above D; with a local too many; naming a local
-- that the chunk hasn't
abbrev extra : List Cell → List Cell → Record
extra stack locals = record { chunk = 0; instruction = 6; stack = stack; locals = locals; outputs = []; guards = [] }

abbrev with_extra : Record → Report
with_extra x = with_records (right tests) (records ++ (x ∷ []))

abbrev pub unreached : Report
unreached = with_extra (extra [] (unit_cell ∷ []))

abbrev pub too_high : Report
too_high = with_extra (extra (unit_cell ∷ unit_cell ∷ unit_cell ∷ []) (unit_cell ∷ []))

abbrev pub too_wide : Report
too_wide = with_extra (extra [] (unit_cell ∷ unit_cell ∷ []))

abbrev pub other_local : Report
other_local = with_extra (extra (with_origin unit_cell (Some 1) ∷ []) (unit_cell ∷ []))

-- a guard that doesn't follow, at the first instruction
abbrev pub no_record : Record
no_record = record { chunk = 0; instruction = 0; stack = []; locals = []; outputs = []; guards = [] }

abbrev guarded_first : Record → Record
guarded_first x =
    record {
      chunk = x.chunk;
      instruction = x.instruction;
      stack = x.stack;
      locals = x.locals;
      outputs = x.outputs;
      guards = record { place = 0; mask = TRUE } ∷ [];
    }

abbrev pub guarded : Report
guarded = with_records (right tests) (guarded_first (get_or records 0 no_record) ∷ drop 1 records)

-- another reply maximum
abbrev pub other_reply : Report
other_reply =
    record {
      reply = suc (right tests).reply;
      signatures = (right tests).signatures;
      slots = (right tests).slots;
      records = records;
      inspections = [];
      branches = [];
    }

-- ---- a call that hands over what its callee doesn't declare, and is given back what that doesn't declare
abbrev pub caller : Chunk
caller =
    chunk_of 0 0 [] top
    (line 57 2 0 1  -- 0 PushImmediate
    ∷ line 30 1 1 1  -- 1 Call
    ∷ line 31 0 0 0  -- 2 Return
    ∷ [])

abbrev pub callee : Chunk
callee =
    chunk_of 1 1 (scalar_shape 3 8 ∷ []) (scalar_shape 2 1)
    (line 1 0 0 1  -- 0 GetLocal
    ∷ line 31 0 0 0  -- 1 Return
    ∷ [])

abbrev pub calls : Module
calls = module_with 0 [] (caller ∷ callee ∷ [])

abbrev no_signature : Signature
no_signature = record { chunk = 0; inputs = []; result = unit_cell }

abbrev signature : ℕ → Signature
signature n = get_or (right calls).signatures n no_signature

abbrev with_callee : Signature → Report
with_callee x =
    record {
      reply = (right calls).reply;
      signatures = signature 0 ∷ x ∷ [];
      slots = [];
      records = (right calls).records;
      inspections = [];
      branches = [];
    }

-- the callee's inputs as the first round has them: declared, without the argument
abbrev pub first_round : Report
first_round = with_callee (record { chunk = 1; inputs = declared (scalar_shape 3 8) false ∷ []; result = (signature 1).result })

-- the callee's result as declared, without what it returns
abbrev pub no_return : Report
no_return = with_callee (record { chunk = 1; inputs = (signature 1).inputs; result = declared (scalar_shape 2 1) false })

-- ---- a value written to a private slot
abbrev pub writer : Chunk
writer =
    chunk_of 0 0 [] top
    (line 57 2 0 1  -- 0 PushImmediate
    ∷ line 4 0 1 0  -- 1 SetData
    ∷ line 57 2 0 1  -- 2 PushImmediate
    ∷ line 31 0 0 0  -- 3 Return
    ∷ [])

abbrev pub writes : Module
writes = module_with 1 [] (writer ∷ [])

abbrev with_slot : Cell → Report
with_slot c =
    record { reply = (right writes).reply; signatures = (right writes).signatures; slots = c ∷ []; records = (right writes).records; inspections = []; branches = [] }

-- a private mask without what is written
abbrev pub unwritten : Report
unwritten = with_slot (fresh_slot NONE)

-- a private fact that names a local
abbrev pub named_slot : Report
named_slot = with_slot (with_origin (get_or (right writes).slots 0 unit_cell) (Some 0))

-- ---- an inspection that always says false, and a test of what it says
abbrev pub deciding : Chunk
deciding =
    chunk_of 0 0 [] top
    (line 57 2 0 1  -- 0 PushImmediate
    ∷ line 40 0 1 2  -- 1 IsEnum
    ∷ line 21 4 1 0  -- 2 If, to 4
    ∷ line 50 0 0 0  -- 3 Trap
    ∷ line 31 0 0 0  -- 4 Return
    ∷ [])

abbrev pub decides : Module
decides = module_with 0 [] (deciding ∷ [])

abbrev listing : List Inspection → List Branch → Report
listing xs bs = record { reply = (right decides).reply; signatures = (right decides).signatures; slots = []; records = (right decides).records; inspections = xs; branches = bs }

-- either of them listed twice
abbrev pub branch_twice : Report
branch_twice = listing (right decides).inspections ((right decides).branches ++ (right decides).branches)

abbrev pub inspection_twice : Report
inspection_twice = listing ((right decides).inspections ++ (right decides).inspections) (right decides).branches

-- ---- modules that are refused before the run, with any report: 9, a reachable chunk without signature; 12, an initializer past the slots
abbrev refused_before : ℕ → List Mask → Module
refused_before signatures inits =
    record {
      float = 8;
      handle = 8;
      entry = 0;
      signatures = signatures;
      layout = true;
      slots = 0;
      owns = false;
      chunks = testing ∷ [];
      natives = [];
      shared = [];
      placed = [];
      inits = inits;
    }

abbrev pub unsigned : Module
unsigned = refused_before 0 []

abbrev pub overflowing : Module
overflowing = refused_before 1 (NONE ∷ [])

-- ---- bytes from which the right report is read, and that are not its own: a field of no tag stands behind them
unfoldable pub garbage : List ℕ
garbage = report_bytes (right tests) ++ (99 ∷ 0 ∷ 0 ∷ [])
