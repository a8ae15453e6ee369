-- What an instruction makes of its operands: the outputs, and the local that it sets. The same in the rounds and in validation.
-- Of types.rs: what `out`, `widths` and `flows` become in `analyze` (lines 634, 662 to 1219), together, since a cell is all three; of the
-- closures `same` and `numeric` (637 to 661) the mask that they answer. Reads of slots are in Data.antt, packing is in
-- packing/specs/Packing.antt; which instruction has which case is the table of ops/specs/Ops.antt. Of document 01: "what the instruction's
-- rule makes"; the outputs of tag 19.
-- Readings, all of them what types.rs does: D4 `same` gives the first operand's kinds where no one kind is common, D6 reads of 0 slots, D9
-- Snapshot. Left out: the pool arithmetic of `data_width`, which no outcome shows (D12). An origin past 65534 is none, since 65535 says
-- none in a report. Differs from types.rs by document 02, Two: a body packs a handle with the header's size, there with 8 (line 195).
-- Nothing is left open. Recursion goes along lists (operands, natives).
use Rattle.std.specs.Prelude.{ℕ, zero, suc, ◌-◌, ◌%◌, Bool, true, false, cond, ◌&&◌, List, [], ◌∷◌, eqb, ltb, get_or, Option as Maybe, None, Some}
use Rattle.std.proofs.Math.Option.{Option, none, some}
use Rattle.masks.specs.declared.Mask.{Mask}
use Rattle.masks.specs.Mask.{of, scalar, body, kind, union, common, has, same, one_kind, constant, immediate}
use Rattle.masks.specs.Names.{NONE, FALSE, WORD, ENUM, TRUE, BOOL, UNKNOWN}
use Rattle.widths.specs.declared.Width.TheVariants.{Body}
use Rattle.widths.specs.declared.Shape.{Shape}
use Rattle.widths.specs.Shape.{shape_mask, declared_width}
use Rattle.extents.specs.declared.Extent.{Extent}
use Rattle.flows.specs.declared.Predicate.{Predicate}
use Rattle.flows.specs.declared.Predicate.TheVariants.{Nothing as Untested, Tests}
use Rattle.flows.specs.Flow.{negated}
use Rattle.cells.specs.declared.Cell.{Cell}
use Rattle.cells.specs.Cell.{made, join_cell, invalidated_cell, owned_width}
use Rattle.packing.specs.Packing.{packed_extent, constructed, construction}
use Rattle.description.specs.declared.Instr.{Instr}
use Rattle.ops.specs.declared.Makes.{Makes}
use Rattle.ops.specs.declared.Makes.TheVariants.{Anything, Constant, Immediate, Local as NamedLocal, Operand, OperandMask, Reply, Result, Common, Kind, Negation, OneKind, Slots, Composite, Part, NativeValue}
use Rattle.ops.specs.declared.Others.{Others}
use Rattle.ops.specs.declared.Others.TheVariants.{Unknowns, Words, Checked, Copies, Tested, Status}
use Rattle.ops.specs.declared.Acts.{Acts}
use Rattle.ops.specs.declared.Acts.TheVariants.{Still, SetsLocal, Yields, Calls, Returns, Resets, Stores}
use Rattle.ops.specs.declared.Rule.{Rule}
use Rattle.definition.specs.declared.Made.{Made}
use Rattle.definition.specs.Module.{Module, Chunk, Line, Site}
use Rattle.definition.specs.Module.{Native as NativeReturn}
use Rattle.definition.specs.State.{Facts}
use Rattle.definition.specs.Data.{fresh, read_slots, slots_from}

-- a visit: the instruction `at` with its operands taken off, what is left below them, and the locals; the height is that on arrival
pub record Visit : Type 0 where
  pub code : Module
  pub chunk : Chunk
  -- streams: the chunk is the entry, a stream with parameters; then `reply` is what its first local may become
  pub streams : Bool
  pub suspends : List Bool
  pub reply : Cell
  pub facts : Facts
  pub at : ℕ
  pub line : Line
  pub rule : Rule
  pub height : ℕ
  pub args : List Cell
  pub below : List Cell
  pub locals : List Cell

-- no value: of no kind
unfoldable pub no_cell : Cell
no_cell = made NONE 0

abbrev pub arg : Visit → ℕ → Cell
arg v k = get_or v.args k no_cell

abbrev pub instr : Visit → Instr
instr v = v.line.instr

-- the kinds that all operands have in common
unfoldable pub common_kinds : Mask → List Cell → Mask
common_kinds so [] = so
common_kinds so (c ∷ cs) = common_kinds (common so (kind c.mask)) cs

abbrev pub shared : Visit → Mask
shared v = common_kinds (of 65535) v.args

-- `same`: the one kind that all operands may be of, else the first's kinds
unfoldable pub bits_mask : Mask → Mask → Mask
bits_mask first all = cond (one_kind (common all WORD)) (common all WORD) (kind first)

unfoldable pub if_has : Mask → Mask → Mask → Mask
if_has m k x = cond (has m k) x NONE

unfoldable pub negation : Mask → Mask
negation m = union (if_has m TRUE FALSE) (if_has m FALSE TRUE)

unfoldable pub with_predicate : Cell → Predicate → Cell
with_predicate c p =
    record {
      mask = c.mask;
      width = c.width;
      flow = record { bodies = c.flow.bodies; owned = c.flow.owned; origin = c.flow.origin; predicate = p };
    }

unfoldable pub with_origin : Cell → Maybe ℕ → Cell
with_origin c o =
    record {
      mask = c.mask;
      width = c.width;
      flow = record { bodies = c.flow.bodies; owned = c.flow.owned; origin = o; predicate = c.flow.predicate };
    }

-- a value read from this local; 65535 is no local
unfoldable pub origin_at : ℕ → Maybe ℕ
origin_at l = cond (ltb l 65535) (Some l) None

-- `Const`: a composite that is copied into a site has its packed length
unfoldable pub constant_cell : Instr → ℕ → Cell
constant_cell i float =
    cond (eqb i.c 0)
    (made (constant (i.a % 256) (eqb i.b 1)) float)
    (fresh (constant (i.a % 256) (eqb i.b 1)) (Body (i.c - 1)) false)

-- field and index reads; owned: of the composite that is read
unfoldable pub field_cell : Instr → Bool → ℕ → Cell
field_cell i o float =
    cond (eqb i.a 0) (made (scalar (i.b % 256)) float)
    (cond (eqb i.a 1) (fresh (body (i.b % 256)) (Body i.c) o)
    (made UNKNOWN float))

unfoldable pub owned_if : Bool → Bool
owned_if b = b

unfoldable pub native_cell : Option NativeReturn → ℕ → Cell
native_cell none float = made UNKNOWN float
native_cell (some n) float = fresh (shape_mask n.shape) (declared_width n.shape) (owned_if n.snapshot)

-- the element, if there is one
unfoldable pub at : {A : Type 0} → List A → ℕ → Option A
at [] n = none
at (x ∷ xs) zero = some x
at (x ∷ xs) (suc n) = at xs n

unfoldable pub reply_shape : Shape → Cell
reply_shape s = fresh (shape_mask s) (declared_width s) (owned_width (declared_width s) true)

unfoldable pub reply_cell : Option Site → Cell
reply_cell none = no_cell
reply_cell (some x) = reply_shape x.reply

-- the extent of a flat construction: Unknown where its operands do not pack within it
unfoldable pub constructed_extent : Visit → Extent
constructed_extent v = constructed (packed_extent v.args v.code.float v.code.handle) ((instr v).b % 256) (instr v).c

unfoldable pub composite_cell : Visit → Cell
composite_cell v =
    cond (eqb (instr v).a 0)
    (construction ((instr v).b % 256) (constructed_extent v))
    (made (body ((instr v).b % 256)) v.code.float)

-- a value that is no more than a mask
abbrev pub value : Visit → Mask → Cell
value v m = made m v.code.float

unfoldable pub first_output : Visit → Makes → Cell
first_output v Anything = value v UNKNOWN
first_output v Constant = constant_cell (instr v) v.code.float
first_output v Immediate = value v (immediate ((instr v).a % 256))
first_output v NamedLocal = with_origin (get_or v.locals (instr v).a no_cell) (origin_at (instr v).a)
first_output v Operand = arg v 0
first_output v OperandMask = value v (arg v 0).mask
first_output v Reply = reply_cell v.line.site
first_output v Result = get_or v.facts.results (instr v).a no_cell
first_output v (Common allowed) = value v (common (shared v) allowed)
first_output v (Kind k) = value v k
first_output v Negation = with_predicate (value v (negation (arg v 0).mask)) (negated (arg v 0).flow.predicate)
first_output v OneKind = value v (bits_mask (arg v 0).mask (shared v))
first_output v Slots = read_slots v.code v.facts (instr v).a (slots_from (instr v) v.rule.slots)
first_output v Composite = composite_cell v
first_output v Part = field_cell (instr v) (arg v 0).flow.owned v.code.float
first_output v NativeValue = native_cell (at v.code.natives (instr v).a) v.code.float

-- the Bool of an inspection: none of no kind, false where the kind is not possible
unfoldable pub inspection : Mask → Mask → Mask
inspection m k = cond (eqb m.bits 0) NONE (cond (has m k) BOOL FALSE)

-- a test for ENUM of a value with an origin remembers the local
unfoldable pub predicate_on : Mask → Maybe ℕ → Predicate
predicate_on k None = Untested
predicate_on k (Some l) = cond (same k ENUM) (Tests l true) Untested

unfoldable pub tested : Mask → Cell → ℕ → Cell
tested k c float = with_predicate (made (inspection c.mask k) float) (predicate_on k c.flow.origin)

-- a native that gives two values gives a word second
unfoldable pub status_mask : ℕ → Mask
status_mask given = cond (eqb given 2) WORD UNKNOWN

-- the outputs after the first, from the first
unfoldable pub second_output : Others → Instr → Cell → ℕ → Cell
second_output Unknowns i first float = made UNKNOWN float
second_output Words i first float = made WORD float
second_output Checked i first float = made first.mask float
second_output Copies i first float = first
second_output (Tested k) i first float = tested k first float
second_output Status i first float = made (status_mask i.given) float

unfoldable pub rest_output : Others → Cell → ℕ → Cell
rest_output Unknowns first float = made UNKNOWN float
rest_output Words first float = made WORD float
rest_output Checked first float = made WORD float
rest_output Copies first float = first
rest_output (Tested k) first float = made UNKNOWN float
rest_output Status first float = made UNKNOWN float

unfoldable pub made_from : Visit → Cell → Made
made_from v first =
    record {
      first = first;
      second = second_output v.rule.others (instr v) first v.code.float;
      rest = rest_output v.rule.others first v.code.float;
    }

unfoldable pub outputs : Visit → Made
outputs v = made_from v (first_output v v.rule.makes)

-- the output k
unfoldable pub output : Made → ℕ → Cell
output x zero = x.first
output x (suc zero) = x.second
output x (suc (suc k)) = x.rest

-- the local that a visit sets, with its cell
pub record Setting : Type 0 where
  pub local : ℕ
  pub cell : Cell

abbrev pub sets : ℕ → Cell → Option Setting
sets l c = some (record { local = l; cell = c })

-- the streaming entry's first local is the reply after a `Yield`, and may be any reply after a call of a chunk that suspends
unfoldable pub setting : Visit → Acts → Option Setting
setting v Still = none
setting v SetsLocal = sets ((instr v).a % 65536) (with_origin (invalidated_cell (arg v 0) ((instr v).a % 65536)) None)
setting v Yields = cond v.streams (sets 0 (reply_cell v.line.site)) none
setting v Calls =
    cond (v.streams && get_or v.suspends (instr v).a false)
    (sets 0 (join_cell (invalidated_cell (get_or v.locals 0 no_cell) 0) v.reply))
    none
setting v Returns = none
setting v Resets = none
setting v Stores = none
