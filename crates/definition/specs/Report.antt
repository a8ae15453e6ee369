-- The report of an accepted run, as values and as bytes.
-- Of types.rs: what `Analysis` holds after validation: states with outputs and guards (lines 1220 to 1232, 1286 to 1291), false inspections
-- and branches (1292 to 1328), inputs, results, private kinds and flows, the largest reply (487). Of document 01: "Report", tags 16 to 21
-- and the cell of 49 bytes.
-- Where it differs: outputs and guards are worked out from the final states, while types.rs keeps those of an instruction's last visit;
-- that visit was with the final state, so they are the same. Readings: B8 the places of outputs and guards, C1 every signature and slot, C2
-- absent parts, D5 a guard of mask 0 is listed. Of document 02: One, the order of a record's guards (`guards_rise`); that they stand in it is a
-- theorem, `guards-rise` (proofs/Guards.antt).
-- Nothing is left open: one report for each run. Recursion goes along lists.
use Rattle.std.specs.Prelude.{ℕ, suc, ◌≤◌, Bool, true, false, not, cond, ◌&&◌, ◌||◌, List, [], ◌∷◌, ◌++◌, eqb, ltb, length, get_or, Option as Maybe, None, Some}
use Rattle.std.proofs.Math.Option.{Option, none, some}
use Rattle.le.specs.Le.{le16, le32}
use Rattle.masks.specs.declared.Mask.{Mask}
use Rattle.masks.specs.Mask.{has, same}
use Rattle.masks.specs.Names.{FALSE, TRUE}
use Rattle.widths.specs.declared.Width.{Width}
use Rattle.widths.specs.declared.Width.TheVariants.{Unknown as Wide, Scalar, Body}
use Rattle.extents.specs.declared.BodyExtent.{BodyExtent}
use Rattle.extents.specs.declared.BodyExtent.TheVariants.{Absent, Range, Unknown}
use Rattle.extents.specs.declared.Extent.{Extent}
use Rattle.flows.specs.declared.Flow.{Flow}
use Rattle.flows.specs.declared.Predicate.{Predicate}
use Rattle.flows.specs.declared.Predicate.TheVariants.{Nothing as Untested, Tests}
use Rattle.flows.specs.Flow.{no_flow}
use Rattle.cells.specs.declared.Cell.{Cell}
use Rattle.ops.specs.declared.Others.{Others}
use Rattle.ops.specs.declared.Others.TheVariants.{Unknowns, Words, Checked, Copies, Tested, Status}
use Rattle.ops.specs.declared.Exit.{Exit}
use Rattle.ops.specs.declared.Exit.TheVariants.{Next, Stops, Jumps, Ifs, Breaks, Restarts}
use Rattle.ops.specs.Ops.{rule_of}
use Rattle.definition.specs.Machine.{Final}
use Rattle.definition.specs.Module.{Chunk}
use Rattle.definition.specs.State.{State, Facts}
use Rattle.definition.specs.Outputs.{Visit, instr, outputs, no_cell}
use Rattle.definition.specs.Wants.{Guarded, guards}
use Rattle.definition.specs.Ways.{output_list}
use Rattle.definition.specs.Leaves.{Known, visit_of, line_at}
use Rattle.definition.specs.Start.{last}

-- tag 17
pub record Signature : Type 0 where
  pub chunk : ℕ
  pub inputs : List Cell
  pub result : Cell

-- an output with its stack place
pub record Output : Type 0 where
  pub slot : ℕ
  pub cell : Cell

-- tag 19
pub record Record : Type 0 where
  pub chunk : ℕ
  pub instruction : ℕ
  pub stack : List Cell
  pub locals : List Cell
  pub outputs : List Output
  pub guards : List Guarded

-- the one guard stands before the other: by stack place, then by mask
unfoldable pub guard_before : Guarded → Guarded → Bool
guard_before g h = ltb g.place h.place || (eqb g.place h.place && ltb g.mask.bits h.mask.bits)

-- each guard stands before the next
unfoldable pub guards_rise : List Guarded → Bool
guards_rise [] = true
guards_rise (g ∷ []) = true
guards_rise (g ∷ (h ∷ gs)) = guard_before g h && guards_rise (h ∷ gs)

-- the guards stand at places from n on, at each place at most one, rising
abbrev pub OnceFrom : ℕ → List Guarded → Type 0
OnceFrom n [] = Unit {0}
OnceFrom n (g ∷ gs) = (n ≤ g.place) × OnceFrom (suc g.place) gs

-- tags 20 and 21
pub record Inspection : Type 0 where
  pub chunk : ℕ
  pub instruction : ℕ

pub record Branch : Type 0 where
  pub chunk : ℕ
  pub instruction : ℕ
  pub value : ℕ

pub record Report : Type 0 where
  pub reply : ℕ
  pub signatures : List Signature
  pub slots : List Cell
  pub records : List Record
  pub inspections : List Inspection
  pub branches : List Branch

-- ---- from the run
unfoldable pub signatures_from : ℕ → List (List Cell) → List Cell → List Signature
signatures_from n [] rs = []
signatures_from n (is ∷ iss) rs =
    record { chunk = n; inputs = is; result = get_or rs n no_cell } ∷ signatures_from (suc n) iss rs

-- a private fact: its width unknown
unfoldable pub slot_cells : List Mask → List Flow → List Cell
slot_cells [] ws = []
slot_cells (m ∷ ms) [] = record { mask = m; width = Wide; flow = no_flow } ∷ slot_cells ms []
slot_cells (m ∷ ms) (w ∷ ws) = record { mask = m; width = Wide; flow = w } ∷ slot_cells ms ws

-- the outputs stand from this place on
unfoldable pub placed : ℕ → List Cell → List Output
placed n [] = []
placed n (c ∷ cs) = record { slot = n; cell = c } ∷ placed (suc n) cs

unfoldable pub record_from : Chunk → ℕ → State → Visit → Record
record_from c i s v =
    record {
      chunk = c.number;
      instruction = i;
      stack = s.stack;
      locals = s.locals;
      outputs = placed (length v.below) (output_list (outputs v) (instr v).given);
      guards = guards v;
    }

unfoldable pub record_of : Known → Chunk → Facts → ℕ → State → Record
record_of k c f i s = record_from c i s (visit_of k c f i s)

-- an inspection that always says false, a test that always goes one way
unfoldable pub says_false : Others → Cell → Bool
says_false (Tested k) c = not (has c.mask k)
says_false Unknowns c = false
says_false Words c = false
says_false Checked c = false
says_false Copies c = false
says_false Status c = false

unfoldable pub is_test : Exit → Bool
is_test Ifs = true
is_test Breaks = true
is_test Next = false
is_test Stops = false
is_test Jumps = false
is_test Restarts = false

abbrev pub op_at : Chunk → ℕ → ℕ
op_at c i = (line_at c i).instr.op

unfoldable pub inspection_of : Chunk → ℕ → State → List Inspection
inspection_of c i s =
    cond (says_false (rule_of (op_at c i)).others (last s.stack)) (record { chunk = c.number; instruction = i } ∷ []) []

unfoldable pub branch_of : Chunk → ℕ → State → List Branch
branch_of c i s =
    cond (is_test (rule_of (op_at c i)).exit)
    (cond (same (last s.stack).mask FALSE) (record { chunk = c.number; instruction = i; value = 0 } ∷ [])
    (cond (same (last s.stack).mask TRUE) (record { chunk = c.number; instruction = i; value = 1 } ∷ []) []))
    []

-- what each recorded instruction adds, rising by chunk and instruction
unfoldable pub from_state : {A : Type 0} → (ℕ → State → List A) → ℕ → Option State → List A
from_state g i none = []
from_state g i (some s) = g i s

unfoldable pub from_states : {A : Type 0} → (ℕ → State → List A) → ℕ → List (Option State) → List A
from_states g i [] = []
from_states g i (s ∷ ss) = from_state g i s ++ from_states g (suc i) ss

unfoldable pub from_chunks : {A : Type 0} → (Chunk → ℕ → State → List A) → List Chunk → List (List (Option State)) → List A
from_chunks g [] sss = []
from_chunks g (c ∷ cs) [] = []
from_chunks g (c ∷ cs) (ss ∷ sss) = from_states (g c) 0 ss ++ from_chunks g cs sss

unfoldable pub report_of : Known → ℕ → Final Facts State → Report
report_of k reply x =
    record {
      reply = reply;
      signatures = signatures_from 0 x.facts.inputs x.facts.results;
      slots = slot_cells x.facts.masks x.facts.flows;
      records = from_chunks (λ c i s. record_of k c x.facts i s ∷ []) k.code.chunks x.states;
      inspections = from_chunks inspection_of k.code.chunks x.states;
      branches = from_chunks branch_of k.code.chunks x.states;
    }

-- ---- to bytes
unfoldable pub sized_bytes : ℕ → ℕ → List ℕ
sized_bytes tag n = tag ∷ le32 n

unfoldable pub width_bytes : Width → List ℕ
width_bytes Wide = sized_bytes 0 0
width_bytes (Scalar n) = sized_bytes 1 n
width_bytes (Body n) = sized_bytes 2 n

unfoldable pub range_bytes : ℕ → ℕ → ℕ → List ℕ
range_bytes tag a b = tag ∷ (le32 a ++ le32 b)

unfoldable pub body_bytes : BodyExtent → List ℕ
body_bytes Absent = range_bytes 0 0 0
body_bytes (Range a b) = range_bytes 1 a b
body_bytes Unknown = range_bytes 2 0 0

unfoldable pub owned_byte : Bool → ℕ
owned_byte false = 0
owned_byte true = 1

unfoldable pub origin_number : Maybe ℕ → ℕ
origin_number None = 65535
origin_number (Some l) = l

unfoldable pub receiver_number : Predicate → ℕ
receiver_number Untested = 65535
receiver_number (Tests r w) = r

unfoldable pub when_byte : Predicate → ℕ
when_byte Untested = 0
when_byte (Tests r w) = cond w 1 0

unfoldable pub bodies_bytes : List Extent → List ℕ
bodies_bytes [] = []
bodies_bytes (x ∷ xs) = body_bytes x.body ++ bodies_bytes xs

unfoldable pub source_bytes : Flow → List ℕ
source_bytes f =
    owned_byte f.owned ∷ (le16 (origin_number f.origin) ++ (le16 (receiver_number f.predicate) ++ (when_byte f.predicate ∷ [])))

-- 49 bytes
unfoldable pub cell_bytes : Cell → List ℕ
cell_bytes c = le16 c.mask.bits ++ (width_bytes c.width ++ (bodies_bytes c.flow.bodies ++ source_bytes c.flow))

unfoldable pub cells_bytes : List Cell → List ℕ
cells_bytes [] = []
cells_bytes (c ∷ cs) = cell_bytes c ++ cells_bytes cs

unfoldable pub field : ℕ → List ℕ → List ℕ
field tag contents = tag ∷ (le16 (length contents) ++ contents)

unfoldable pub signature_bytes : Signature → List ℕ
signature_bytes x = field 17 (le16 x.chunk ++ (cells_bytes x.inputs ++ cell_bytes x.result))

unfoldable pub slot_bytes : Cell → List ℕ
slot_bytes c = field 18 (cell_bytes c)

unfoldable pub outputs_bytes : List Output → List ℕ
outputs_bytes [] = []
outputs_bytes (o ∷ os) = le16 o.slot ++ (cell_bytes o.cell ++ outputs_bytes os)

unfoldable pub guards_bytes : List Guarded → List ℕ
guards_bytes [] = []
guards_bytes (g ∷ gs) = le16 g.place ++ (le16 g.mask.bits ++ guards_bytes gs)

unfoldable pub counts_bytes : Record → List ℕ
counts_bytes x = le16 (length x.stack) ++ (le16 (length x.locals) ++ (le16 (length x.outputs) ++ le16 (length x.guards)))

unfoldable pub record_bytes : Record → List ℕ
record_bytes x =
    field 19
    (le16 x.chunk
    ++ (le16 x.instruction
    ++ (counts_bytes x
    ++ (cells_bytes x.stack
    ++ (cells_bytes x.locals
    ++ (outputs_bytes x.outputs
    ++ guards_bytes x.guards))))))

unfoldable pub inspection_bytes : Inspection → List ℕ
inspection_bytes x = field 20 (le16 x.chunk ++ le16 x.instruction)

unfoldable pub branch_bytes : Branch → List ℕ
branch_bytes x = field 21 (le16 x.chunk ++ (le16 x.instruction ++ (x.value ∷ [])))

unfoldable pub each : {A : Type 0} → (A → List ℕ) → List A → List ℕ
each f [] = []
each f (x ∷ xs) = f x ++ each f xs

unfoldable pub report_bytes : Report → List ℕ
report_bytes r =
    field 16 (le32 r.reply)
    ++ (each signature_bytes r.signatures
    ++ (each slot_bytes r.slots
    ++ (each record_bytes r.records
    ++ (each inspection_bytes r.inspections
    ++ each branch_bytes r.branches))))
