-- Demand 3: a report that is consistent beside its module. Recorded, takes in, leaves, passes and reached are document 01's words. Of document
-- 02: the order of guards (One), and the list of what a report can be held to, whoever wrote it (Eight).
-- Two parts: `Arrives`, which a look at report and description decides, and `reached`, which only a run gives.
use Rattle.std.specs.Prelude.{ℕ, ◌<◌, ◌≤◌, ◌≡◌, ◌⊎◌, ◌↔◌, true, false, ◌||◌, leb, length, get_or}
use Rattle.std.proofs.Math.Option.{none, some}
use mathlib.Core.List.{List, [], ◌++◌, map, Memᴰ}
use Rattle.masks.specs.declared.Mask.{Mask}
use Rattle.masks.specs.Mask.{union}
use Rattle.masks.specs.Names.{NONE, FALSE, TRUE}
use Rattle.widths.specs.declared.Width.TheVariants.{Unknown as Wide}
use Rattle.flows.specs.Flow.{join_flow, no_flow}
use Rattle.cells.specs.declared.Cell.{Cell}
use Rattle.cells.specs.Cell.{join_cell}
use Rattle.ops.specs.Ops.{rule_of}
use Rattle.join_laws.specs.Join.{Takes}
use Rattle.definition.specs.Module.{Module, Chunk, row}
use Rattle.definition.specs.State.{State, Facts, Gift, nothing, arguments, returned, written}
use Rattle.definition.specs.Data.{is_body}
use Rattle.definition.specs.Outputs.{Visit, no_cell}
use Rattle.definition.specs.Wants.{unfit}
use Rattle.definition.specs.Ways.{after, leaving}
use Rattle.definition.specs.Leaves.{always, visit_of, line_at, gives, stored_flow}
use Rattle.definition.specs.Start.{state_fault, admitted, overfull, init_mask, first_facts, reply_maximum, known_of, filled, last}
use Rattle.definition.specs.Report.{Report, Record, guards_rise, record_of, Inspection, Branch, says_false, is_test}
use Rattle.report_laws.specs.Names.{NamesLocal, NamesReceiver}
use Rattle.consistent.specs.Rising.{Rising, RisingBy}

-- ---- what a report says
-- the cells of tags 17 and 18, as the rules read them
unfoldable pub facts_of : Report → Facts
facts_of r =
    record {
      inputs = map (λ x. x.inputs) r.signatures;
      results = map (λ x. x.result) r.signatures;
      masks = map (λ x. x.mask) r.slots;
      flows = map (λ x. x.flow) r.slots;
    }

unfoldable pub state_of : Record → State
state_of x = record { stack = x.stack; locals = x.locals }

-- an instruction is recorded, in this state
pub record Recorded (r : Report) (c i : ℕ) (s : State) : Type 0 where
  pub entry : Record
  pub listed : Memᴰ entry r.records
  pub of-chunk : entry.chunk ≡ c
  pub at : entry.instruction ≡ i
  pub says : state_of entry ≡ s

-- ---- takes in
-- a cell takes in another when joining that one changes nothing
abbrev pub TakesCell : Cell → Cell → Type 0
TakesCell x y = Takes join_cell x y

-- the one row takes in the other, cell by cell
pub record TakesAll (xs ys : List Cell) : Type 0 where
  pub long : length xs ≡ length ys
  pub each : (i : ℕ) → i < length ys → TakesCell (get_or xs i no_cell) (get_or ys i no_cell)

-- the heights agree, and each stack cell and local takes in its counterpart
pub record TakesIn (s x : State) : Type 0 where
  pub stack : TakesAll s.stack x.stack
  pub locals : TakesAll s.locals x.locals

-- ---- the visit of a record: the description, the record's stack and locals, and the cells of tags 17 and 18
unfoldable pub visit_at : Module → Report → Chunk → ℕ → State → Visit
visit_at m r c i s = visit_of (known_of m (first_facts m)) c (facts_of r) i s

-- along this way this leaves the instruction i, whose record has this state
abbrev pub Leaves : Module → Report → Chunk → ℕ → State → ℕ → State → Type 0
Leaves m r c i s to x = Memᴰ {A = ℕ × State} (to, x) (leaving (visit_at m r c i s))

-- reached from the first instruction by a chain of passes between recorded instructions
pub data Reached (m : Module) (r : Report) (c : Chunk) : ℕ → Type 0 where
  first : Reached m r c 0
  then : {i : ℕ} (to : ℕ) (s x : State) → Reached m r c i → Recorded r c.number i s → Leaves m r c i s to x → Reached m r c to

-- a private slot, and what it keeps of a value written to it: a body's flow too
abbrev pub Private : Module → ℕ → Type 0
Private m n = (is_body m n || leb (length m.shared) n) ≡ true

pub record WrittenIn (m : Module) (f : Facts) (n : ℕ) (c : Cell) : Type 0 where
  pub mask : Private m n → union (get_or f.masks n NONE) c.mask ≡ get_or f.masks n NONE
  pub flow : is_body m n ≡ true → join_flow (get_or f.flows n no_flow) (stored_flow c.flow) ≡ get_or f.flows n no_flow

-- the facts printed take in what a visit gives: each argument the callee's input, a value given back its chunk's result, a value written each
-- slot of the write
unfoldable pub GivenIn : Module → Facts → Gift → Type 0
GivenIn m f nothing = Unit {0}
GivenIn m f (arguments n cs) =
    (length cs ≤ length (get_or f.inputs n []))
    × ((i : ℕ) → i < length cs → TakesCell (get_or (get_or f.inputs n []) i no_cell) (get_or cs i no_cell))
GivenIn m f (returned n c) = (n < length f.results) × TakesCell (get_or f.results n no_cell) c
GivenIn m f (written ns c) = (n : ℕ) → Memᴰ n ns → (n < length f.masks) × WrittenIn m f n c

-- the facts printed are as many as the declared ones, and inputs and results take them in
pub record DeclaredIn (m : Module) (f : Facts) : Type 0 where
  pub chunks : length f.inputs ≡ length (first_facts m).inputs
  pub inputs : (n : ℕ) → n < length f.inputs → TakesAll (get_or f.inputs n []) (get_or (first_facts m).inputs n [])
  pub results : TakesAll f.results (first_facts m).results
  pub slots : length f.masks ≡ m.slots

-- what a private fact begins with: the kinds of its initializer, no width, no size, no origin
abbrev pub fresh_slot : Mask → Cell
fresh_slot k = record { mask = k; width = Wide; flow = no_flow }

-- ---- the size of a record
-- a cell names no local past the first n
pub record Names (n : ℕ) (x : Cell) : Type 0 where
  pub origin : NamesLocal (λ l. l < n) x.flow.origin
  pub receiver : NamesReceiver (λ l. l < n) x.flow.predicate

-- all locals of the chunk and no others, a stack of at most D, and no local named that the chunk hasn't
pub record Sized (c : Chunk) (s : State) : Type 0 where
  pub locals : length s.locals ≡ c.locals
  pub stack : length s.stack ≤ c.stack
  pub names : (x : Cell) → Memᴰ x (s.stack ++ s.locals) → Names c.locals x

-- ---- branches and inspections
-- a test whose condition is exactly one Bool
abbrev pub KnownBranch : Module → Report → Branch → Type 0
KnownBranch m r b = (c : Chunk) × (s : State) × Memᴰ c m.chunks × (c.number ≡ b.chunk)
    × Recorded r b.chunk b.instruction s × (is_test (rule_of (line_at c b.instruction).instr.op).exit ≡ true)
    × (((b.value ≡ 0) × ((last s.stack).mask ≡ FALSE)) ⊎ ((b.value ≡ 1) × ((last s.stack).mask ≡ TRUE)))

-- an inspection for a kind that its operand can't be
abbrev pub FalseInspection : Module → Report → Inspection → Type 0
FalseInspection m r x = (c : Chunk) × (s : State) × Memᴰ c m.chunks × (c.number ≡ x.chunk)
    × Recorded r x.chunk x.instruction s × (says_false (rule_of (line_at c x.instruction).instr.op).others (last s.stack) ≡ true)

-- ---- what validation asks of a visit in this state
pub record Fine (v : Visit) (s : State) : Type 0 where
  pub fits : always v ≡ 0
  pub proven : unfit v ≡ 0
  pub height : length (after v).stack ≤ v.chunk.stack
  pub inspected : state_fault v.line (some s) ≡ 0

-- ---- what a report can be held to, whoever wrote it
-- one chunk
pub record ArrivesChunk (m : Module) (r : Report) (c : Chunk) : Type 0 where
  -- the first instruction is recorded and takes in the chunk's printed inputs: an empty stack, and Unit in the other locals
  pub begins : (s : State) × Recorded r c.number 0 s × TakesIn s (record { stack = []; locals = filled c.locals (get_or (facts_of r).inputs c.number []) })
  -- wherever control may pass, the second instruction is recorded too and takes in what leaves the first on that way
  pub passes : (i : ℕ) (s : State) → Recorded r c.number i s → (to : ℕ) (x : State) → Leaves m r c i s to x
      → to < length c.code → (t : State) × Recorded r c.number to t × TakesIn t x
  -- callee inputs, results and private facts take in what every recorded instruction gives
  pub given : (i : ℕ) (s : State) → Recorded r c.number i s → GivenIn m (facts_of r) (gives (visit_at m r c i s))
  -- no refusal follows: its operands are there, of proven kinds, packed, its height fits, and an inspection has what it looks at
  pub fine : (i : ℕ) (s : State) → Recorded r c.number i s → Fine (visit_at m r c i s) s
  -- each recorded instruction is one of the chunk, and its state of the chunk's size
  pub inside : (i : ℕ) (s : State) → Recorded r c.number i s → i < length c.code
  pub sized : (i : ℕ) (s : State) → Recorded r c.number i s → Sized c s
  -- a record is the one that follows from its stack and locals: its outputs and its guards
  pub follows : (x : Record) → Memᴰ x r.records → x.chunk ≡ c.number
      → x ≡ record_of (known_of m (first_facts m)) c (facts_of r) x.instruction (state_of x)

pub record Arrives (m : Module) (r : Report) : Type 0 where
  -- no refusal from 9 to 12 follows; the reply maximum is the description's
  pub admits : admitted m m.chunks ≡ none
  pub reply : reply_maximum (known_of m (first_facts m)).reply ≡ some r.reply
  pub room : overfull m ≡ false
  -- the signatures stand in the order of their chunks, one for each, and all facts have what is declared
  pub numbered : map (λ x. x.chunk) r.signatures ≡ row (λ n. n) 0 (length r.signatures)
  pub declared : DeclaredIn m (facts_of r)
  pub slots : (n : ℕ) → n < m.slots → TakesCell (get_or r.slots n no_cell) (fresh_slot (init_mask m n))
  -- the records rise, so none is of an instruction that another is of
  pub rising : Rising r.records
  pub chunks : (c : Chunk) → Memᴰ c m.chunks → c.reachable ≡ true → ArrivesChunk m r c
  -- an unreachable chunk has no records, and every record is of a chunk
  pub none : (c : Chunk) → Memᴰ c m.chunks → c.reachable ≡ false → (i : ℕ) (s : State) → Recorded r c.number i s → ⊥
  pub owned : (x : Record) → Memᴰ x r.records → (c : Chunk) × Memᴰ c m.chunks × (x.chunk ≡ c.number) × (c.reachable ≡ true)
  -- the guards of a record stand in rising order of stack place, then of mask (document 02, One)
  pub ordered : (x : Record) → Memᴰ x r.records → guards_rise x.guards ≡ true
  -- the known branches and false inspections listed are those that the records show, each once
  pub branches : (b : Branch) → (Memᴰ b r.branches ↔ KnownBranch m r b)
  pub branches_rise : RisingBy (λ b. b.chunk) (λ b. b.instruction) r.branches
  pub inspections : (x : Inspection) → (Memᴰ x r.inspections ↔ FalseInspection m r x)
  pub inspections_rise : RisingBy (λ x. x.chunk) (λ x. x.instruction) r.inspections

-- ---- the whole
pub record Consistent (m : Module) (r : Report) : Type 0 where
  pub arrives : Arrives m r
  -- each recorded instruction is reached from the first of its chunk
  pub reached : (c : Chunk) → Memᴰ c m.chunks → c.reachable ≡ true → (i : ℕ) (s : State) → Recorded r c.number i s → Reached m r c i
