-- What validation asks of a visit: `require`, `same` and `numeric` of types.rs, the guards that follow, and the packed extent.
-- Of types.rs: the closures (lines 605 to 661), where the rules call them (662 to 1003), the value that a `Return` gives back (710 to 713),
-- and 15 (1100 to 1105). Of document 01: 13 and 15, and the guards of tag 19.
-- Where it differs: types.rs stops at the first requirement that fails; here all are found, and one that is not proven refuses, which is 13
-- either way. The functions are given masks, since the closures read nothing else of a cell. Readings: D3 tested at every taking, D5 two
-- requirements on one place meet.
-- Nothing is left open; the guards rise by stack place (document 02, One). Recursion goes along operands and slots.
use Rattle.std.specs.Prelude.{ℕ, suc, ◌+◌, ◌-◌, Bool, true, false, not, cond, ◌&&◌, List, [], ◌∷◌, eqb, ltb, length, get_or}
use Rattle.std.proofs.Math.Option.{Option, none, some}
use Rattle.masks.specs.declared.Mask.{Mask}
use Rattle.masks.specs.Mask.{kind, common, within, one_kind}
use Rattle.masks.specs.Names.{NONE, WORD, NUMERIC, GUARDED}
use Rattle.widths.specs.Shape.{shape_mask}
use Rattle.extents.specs.declared.BodyExtent.{BodyExtent}
use Rattle.extents.specs.declared.BodyExtent.TheVariants.{Absent, Range, Unknown}
use Rattle.cells.specs.declared.Cell.{Cell}
use Rattle.description.specs.declared.Instr.{Instr}
use Rattle.ops.specs.declared.Makes.{Makes}
use Rattle.ops.specs.declared.Makes.TheVariants.{Anything, Constant, Immediate, Local, Operand, OperandMask, Reply, Result, Common, Kind, Negation, OneKind, Slots, Composite, Part, NativeValue}
use Rattle.ops.specs.declared.Asks.{Asks}
use Rattle.ops.specs.declared.Asks.TheVariants.{Free, First as OneWithin, Both as TwoWithin, Yielded, Returned, Every as EachWithin, Ordered, Same, Stored, PartOf, Never as NotProven}
use Rattle.ops.specs.declared.Data.{Data}
use Rattle.ops.specs.declared.Data.TheVariants.{NoSlot, OneSlot, ManySlots}
use Rattle.definition.specs.declared.Ask.{Ask}
use Rattle.definition.specs.declared.Ask.TheVariants.{Nothing, First, Both, Every, Below, Writes, WritesIndexed, Never}
use Rattle.definition.specs.declared.Want.{Want}
use Rattle.definition.specs.declared.Check.{Check}
use Rattle.definition.specs.declared.Check.TheVariants.{Fine, Guard, Unproven}
use Rattle.definition.specs.Module.{Module, Site}
use Rattle.definition.specs.State.{Facts}
use Rattle.definition.specs.Data.{slots_from, slot_allows}
use Rattle.definition.specs.Outputs.{Visit, arg, instr, no_cell, shared, constructed_extent}

-- a value of these kinds where those are allowed: fine, fine behind a guard, or not proven. A value of no kind is not proven
unfoldable pub require : Mask → Mask → Check
require actual allowed =
    cond (not (eqb actual.bits 0) && within actual allowed) Fine
    (cond (not (eqb (common actual allowed).bits 0) && within actual GUARDED) (Guard (common actual allowed)) Unproven)

-- two requirements on one place meet
unfoldable pub meet : Check → Check → Check
meet Unproven d = Unproven
meet Fine d = d
meet (Guard m) Unproven = Unproven
meet (Guard m) Fine = Guard m
meet (Guard m) (Guard n) = Guard (common m n)

abbrev pub wants : Ask → Mask → Mask → Want
wants k m n = record { ask = k; first = m; second = n }

abbrev pub nothing : Want
nothing = wants Nothing NONE NONE

abbrev pub never : Want
never = wants Never NONE NONE

-- `numeric`: every operand within what they have in common; nothing in common is not proven
unfoldable pub every : Mask → Want
every m = cond (eqb m.bits 0) never (wants Every m NONE)

-- `same`: every operand of the one kind
unfoldable pub same : Mask → Mask → Want
same all k = cond (one_kind (common all k)) (every (common all k)) never

unfoldable pub yielded_mask : Option Site → Mask
yielded_mask none = NONE
yielded_mask (some x) = shape_mask x.yielded

-- what is written fits every slot; the index of an indexed write is a word
unfoldable pub stored : Data → Want
stored NoSlot = wants Writes NONE WORD
stored OneSlot = wants Writes NONE WORD
stored ManySlots = wants WritesIndexed NONE WORD

abbrev pub is_entry : Visit → Bool
is_entry v = eqb v.chunk.number v.code.entry

-- the kinds that the first two operands have in common
unfoldable pub pair_kinds : Visit → Mask
pair_kinds v = common (kind (arg v 0).mask) (kind (arg v 1).mask)

-- what is declared: the kinds that the site yields for a `Yield`, those of the chunk's result for a `Return`
unfoldable pub declared_kinds : Asks → Mask → Mask → Mask
declared_kinds Yielded yielded result = yielded
declared_kinds Returned yielded result = result
declared_kinds Free yielded result = NONE
declared_kinds (OneWithin m) yielded result = NONE
declared_kinds (TwoWithin m n) yielded result = NONE
declared_kinds (EachWithin m) yielded result = NONE
declared_kinds Ordered yielded result = NONE
declared_kinds (Same k) yielded result = NONE
declared_kinds Stored yielded result = NONE
declared_kinds (PartOf k) yielded result = NONE
declared_kinds NotProven yielded result = NONE

-- a `Return` of the entry gives back its declared kinds
unfoldable pub returned_want : Bool → Mask → Want
returned_want entry declared = cond entry (wants Below declared NONE) nothing

-- the composite that a field read wants; a boxed read is never proven
unfoldable pub part_want : Instr → Mask → Want
part_want i k = cond (ltb 1 i.a) never (wants First k NONE)

-- all: the kinds that all operands have in common; pair: those of the first two; declared: what the site or the chunk declares
unfoldable pub want_by : Asks → Data → Instr → Mask → Mask → Mask → Bool → Want
want_by Free slots i all pair declared entry = nothing
want_by (OneWithin m) slots i all pair declared entry = wants First m NONE
want_by (TwoWithin m n) slots i all pair declared entry = wants Both m n
want_by Yielded slots i all pair declared entry = wants First declared NONE
want_by Returned slots i all pair declared entry = returned_want entry declared
want_by (EachWithin m) slots i all pair declared entry = every (common all m)
want_by Ordered slots i all pair declared entry = every (common pair NUMERIC)
want_by (Same k) slots i all pair declared entry = same all k
want_by Stored slots i all pair declared entry = stored slots
want_by (PartOf k) slots i all pair declared entry = part_want i k
want_by NotProven slots i all pair declared entry = never

unfoldable pub declared_mask : Visit → Mask
declared_mask v = declared_kinds v.rule.asks (yielded_mask v.line.site) (shape_mask v.chunk.result)

unfoldable pub want_of : Visit → Want
want_of v = want_by v.rule.asks v.rule.slots (instr v) (shared v) (pair_kinds v) (declared_mask v) (is_entry v)

-- a value of this mask, written to each of the slots
unfoldable pub write_check : Module → Facts → Mask → Check → List ℕ → Check
write_check m f x so [] = so
write_check m f x so (n ∷ ns) = write_check m f x (meet so (require x (slot_allows m f n))) ns

unfoldable pub at_index : ℕ → ℕ → Check → Check
at_index k n c = cond (eqb k n) c Fine

-- what is asked of the operand k, whose mask this is
unfoldable pub operand_check : Visit → Want → Ask → ℕ → Mask → Check
operand_check v w Nothing k m = Fine
operand_check v w First k m = at_index k 0 (require m w.first)
operand_check v w Both k m = meet (at_index k 0 (require m w.first)) (at_index k 1 (require m w.second))
operand_check v w Every k m = require (kind m) w.first
operand_check v w Below k m = Fine
operand_check v w Writes k m = at_index k 0 (write_check v.code v.facts m Fine (slots_from (instr v) v.rule.slots))
operand_check v w WritesIndexed k m =
    meet
    (at_index k 0 (write_check v.code v.facts m Fine (slots_from (instr v) v.rule.slots)))
    (at_index k 1 (require m w.second))
operand_check v w Never k m = Unproven

-- a stack place with what is asked of it
pub record Asked : Type 0 where
  pub place : ℕ
  pub found : Check

unfoldable pub operand_checks : Visit → Want → ℕ → List Cell → List Asked
operand_checks v w k [] = []
operand_checks v w k (c ∷ cs) =
    record { place = length v.below + k; found = operand_check v w w.ask k c.mask } ∷ operand_checks v w (suc k) cs

-- the value below the operands, which a `Return` gives back
abbrev pub returned : Visit → Cell
returned v = get_or v.below (length v.below - 1) no_cell

unfoldable pub checks_by : Visit → Want → Ask → List Asked
checks_by v w Nothing = operand_checks v w 0 v.args
checks_by v w First = operand_checks v w 0 v.args
checks_by v w Both = operand_checks v w 0 v.args
checks_by v w Every = operand_checks v w 0 v.args
checks_by v w Below = record { place = length v.below - 1; found = require (returned v).mask w.first } ∷ []
checks_by v w Writes = operand_checks v w 0 v.args
checks_by v w WritesIndexed = operand_checks v w 0 v.args
checks_by v w Never = record { place = 0; found = Unproven } ∷ []

-- all that is asked of a visit, by stack place
unfoldable pub checks : Visit → List Asked
checks v = checks_by v (want_of v) (want_of v).ask

unfoldable pub is_proven : Check → Bool
is_proven Fine = true
is_proven (Guard m) = true
is_proven Unproven = false

unfoldable pub all_proven : List Asked → Bool
all_proven [] = true
all_proven (x ∷ xs) = is_proven x.found && all_proven xs

-- a guard: the place, and the kinds that it lets pass
pub record Guarded : Type 0 where
  pub place : ℕ
  pub mask : Mask

unfoldable pub guard_of : ℕ → Check → List Guarded → List Guarded
guard_of p Fine gs = gs
guard_of p (Guard m) gs = record { place = p; mask = m } ∷ gs
guard_of p Unproven gs = gs

-- the guards, rising by stack place
unfoldable pub guards_in : List Asked → List Guarded
guards_in [] = []
guards_in (x ∷ xs) = guard_of x.place x.found (guards_in xs)

unfoldable pub guards : Visit → List Guarded
guards v = guards_in (checks v)

unfoldable pub is_unknown : BodyExtent → Bool
is_unknown Absent = false
is_unknown (Range a b) = false
is_unknown Unknown = true

-- a flat construction whose operands do not pack within it
unfoldable pub unpacked : Visit → Makes → Bool
unpacked v Composite = eqb (instr v).a 0 && is_unknown (constructed_extent v).body
unpacked v Anything = false
unpacked v Constant = false
unpacked v Immediate = false
unpacked v Local = false
unpacked v Operand = false
unpacked v OperandMask = false
unpacked v Reply = false
unpacked v Result = false
unpacked v (Common m) = false
unpacked v (Kind m) = false
unpacked v Negation = false
unpacked v OneKind = false
unpacked v Slots = false
unpacked v Part = false
unpacked v NativeValue = false

-- what validation refuses a visit for: 13, 15, or 0 for nothing
unfoldable pub unfit : Visit → ℕ
unfit v = cond (all_proven (checks v)) (cond (unpacked v v.rule.makes) 15 0) 13
