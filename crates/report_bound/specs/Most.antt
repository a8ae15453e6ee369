-- A length that no report of a module passes, from what its description says alone. For every instruction of a reachable chunk a record of the
-- highest stack that an accepted run can have there, all locals, all outputs, and a guard at each place that its rule asks about; besides that
-- one field for an inspection and one for a test. From a chunk's first instruction on, as long as control only goes on to the next, the height
-- of the stack is known; behind the first instruction that does anything else it is only known to be no more than D, since control may come
-- there from elsewhere alone.
-- It is no more than a bound: an instruction that control never comes to has no record, many stacks are lower, most guards aren't needed, and
-- few tests are known.
use Rattle.std.specs.Prelude.{ℕ, ◌+◌, ◌*◌, ◌-◌, Bool, true, false, not, cond, ◌&&◌, ◌||◌, List, [], ◌∷◌, eqb, ltb, length}
use Rattle.description.specs.declared.Instr.{Instr}
use Rattle.ops.specs.declared.Others.{Others}
use Rattle.ops.specs.declared.Others.TheVariants.{Unknowns, Words, Checked, Copies, Tested, Status}
use Rattle.ops.specs.declared.Exit.{Exit}
use Rattle.ops.specs.declared.Exit.TheVariants.{Next, Stops, Jumps, Ifs, Breaks, Restarts}
use Rattle.ops.specs.declared.Asks.{Asks}
use Rattle.ops.specs.declared.Asks.TheVariants.{Free, First, Both, Yielded, Returned, Every, Ordered, Same, Stored, PartOf, Never}
use Rattle.ops.specs.declared.Data.{Data}
use Rattle.ops.specs.declared.Data.TheVariants.{NoSlot, OneSlot, ManySlots}
use Rattle.ops.specs.Ops.{rule_of}
use Rattle.definition.specs.Module.{Module, Chunk, Line}
use Rattle.definition.specs.Ways.{is_reset}
use Rattle.definition.specs.Leaves.{hopeless}
use Rattle.definition.specs.Report.{is_test}

-- ---- the bytes of each part
abbrev pub cell_size : ℕ
cell_size = 49

-- an output has its place, too
abbrev pub output_size : ℕ
output_size = 51

abbrev pub guard_size : ℕ
guard_size = 4

-- tag, length, chunk, instruction and four counts
abbrev pub record_size : ℕ
record_size = 15

abbrev pub inspection_size : ℕ
inspection_size = 7

abbrev pub branch_size : ℕ
branch_size = 8

-- tag, length and chunk; beside the inputs a result
abbrev pub signature_size : ℕ
signature_size = 5

abbrev pub slot_size : ℕ
slot_size = 52

abbrev pub reply_size : ℕ
reply_size = 7

-- ---- one instruction
abbrev pub least : ℕ → ℕ → ℕ
least a b = cond (ltb a b) a b

-- a write: what is written, and its index where there is one
abbrev pub written_guards : Data → ℕ → ℕ
written_guards NoSlot taken = 1
written_guards OneSlot taken = 1
written_guards ManySlots taken = least 2 taken

-- as many guards as places that are asked about; a `Return` is asked about its value in the entry alone
abbrev pub most_guards : Asks → Data → ℕ → Bool → ℕ
most_guards Free slots taken entry = 0
most_guards (First m) slots taken entry = 1
most_guards (Both m n) slots taken entry = least 2 taken
most_guards Yielded slots taken entry = 1
most_guards Returned slots taken entry = cond entry 1 0
most_guards (Every m) slots taken entry = taken
most_guards Ordered slots taken entry = taken
most_guards (Same k) slots taken entry = taken
most_guards Stored slots taken entry = written_guards slots taken
most_guards (PartOf k) slots taken entry = 1
most_guards Never slots taken entry = 0

-- the highest stack before an instruction after which no more than D are on it; `Reset` empties it
abbrev pub highest : Bool → ℕ → ℕ → ℕ → ℕ
highest resets stack taken given = cond resets stack (least stack (stack + taken - given))

abbrev pub is_next : Exit → Bool
is_next Next = true
is_next Stops = false
is_next Jumps = false
is_next Ifs = false
is_next Breaks = false
is_next Restarts = false

-- control only goes on to the next instruction, and what lies below the operands stays
unfoldable pub goes_on : Instr → Bool
goes_on i = is_next (rule_of i.op).exit && not (is_reset (rule_of i.op).acts)

-- the height before the next instruction: where all went on so far it follows from the one before, and is never above D in an accepted run
abbrev pub height_after : Bool → ℕ → ℕ → Instr → ℕ
height_after straight stack height i = cond straight (least stack (height - i.taken + i.given)) stack

abbrev pub inspection_most : Others → ℕ
inspection_most (Tested k) = inspection_size
inspection_most Unknowns = 0
inspection_most Words = 0
inspection_most Checked = 0
inspection_most Copies = 0
inspection_most Status = 0

-- no record: its operands or its outputs don't fit the stack, or nothing proves it
unfoldable pub unrecorded : ℕ → Instr → Bool
unrecorded stack i = ltb stack i.taken || ltb stack i.given || hopeless (rule_of i.op).asks i.a

unfoldable pub record_most : ℕ → ℕ → ℕ → Bool → Instr → ℕ
record_most locals stack height entry i =
    let r = rule_of i.op in
    record_size + cell_size * (least height (highest (is_reset r.acts) stack i.taken i.given) + locals)
    + output_size * i.given
    + guard_size * most_guards r.asks r.slots i.taken entry

-- in a chunk of so many locals and so high a stack, where it has no more than this height, and which is the entry or not
unfoldable pub instr_most : ℕ → ℕ → ℕ → Bool → Instr → ℕ
instr_most locals stack height entry i =
    cond (unrecorded stack i) 0
    (record_most locals stack height entry i + inspection_most (rule_of i.op).others + cond (is_test (rule_of i.op).exit) branch_size 0)

-- ---- the whole
-- the rest of a chunk's code: whether all before it only went on, and the height there
unfoldable pub code_most : ℕ → ℕ → Bool → Bool → ℕ → List Line → ℕ
code_most locals stack entry straight height [] = 0
code_most locals stack entry straight height (x ∷ xs) =
    let on = straight && goes_on x.instr in
    instr_most locals stack height entry x.instr + code_most locals stack entry on (height_after on stack height x.instr) xs

abbrev pub signature_most : ℕ → Bool → ℕ
signature_most params signed = cond signed (signature_size + cell_size * (params + 1)) 0

-- a chunk that isn't reachable has no records; a reachable one begins with an empty stack
unfoldable pub chunk_most : Module → Chunk → ℕ
chunk_most m c =
    signature_most (length c.params) (ltb c.number m.signatures)
    + cond c.reachable (code_most c.locals c.stack (eqb c.number m.entry) true 0 c.code) 0

unfoldable pub chunks_most : Module → List Chunk → ℕ
chunks_most m [] = 0
chunks_most m (c ∷ cs) = chunk_most m c + chunks_most m cs

unfoldable pub most_report : Module → ℕ
most_report m = reply_size + slot_size * m.slots + chunks_most m m.chunks
