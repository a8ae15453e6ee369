-- Before the rounds: refusals 9 to 12, the declared facts, the reply, which chunks suspend; what a chunk begins with, and what follows its validation.
use Rattle.std.specs.Prelude.{ℕ, zero, suc, ◌+◌, ◌-◌, Bool, true, false, not, cond, ◌&&◌, ◌||◌, List, [], ◌∷◌, map, eqb, ltb, leb, length, get_or, set, take, replicate, Option as Maybe, None, Some}
use Rattle.std.proofs.Math.Option.{Option, none, some}
use Rattle.masks.specs.declared.Mask.{Mask}
use Rattle.masks.specs.Mask.{has, same}
use Rattle.masks.specs.Names.{NONE, UNIT, BYTE, WORD, FIXED, FLOAT, TEXT, STRUCT, ENUM, BOOL, UNKNOWN}
use Rattle.widths.specs.declared.Shape.{Shape}
use Rattle.widths.specs.Shape.{shape_mask}
use Rattle.flows.specs.Flow.{no_flow, maximum_of, absent}
use Rattle.extents.specs.Extent.{extent_minimum}
use Rattle.cells.specs.declared.Cell.{Cell}
use Rattle.cells.specs.Cell.{declared, join_cell, unit_cell}
use Rattle.ops.specs.declared.Others.{Others}
use Rattle.ops.specs.declared.Others.TheVariants.{Unknowns, Words, Checked, Copies, Tested, Status}
use Rattle.ops.specs.Ops.{rule_of}
use Rattle.definition.specs.Module.{Module, Chunk, Line, Site, row}
use Rattle.definition.specs.State.{State, Facts}
use Rattle.definition.specs.Outputs.{no_cell}
use Rattle.definition.specs.Leaves.{Known, line_at}
use Rattle.ops.specs.Numbers.{op_call}

-- ---- 9 and 10, by chunk
unfoldable pub tag_mask : ℕ → Mask
tag_mask t = get_or (UNKNOWN ∷ BYTE ∷ WORD ∷ FIXED ∷ FLOAT ∷ BOOL ∷ UNIT ∷ TEXT ∷ []) t UNKNOWN

-- type tags and shapes agree as far as both go; a composite agrees with any
unfoldable pub agree : List ℕ → List Shape → Bool
agree [] xs = true
agree (t ∷ ts) [] = true
agree (t ∷ ts) (x ∷ xs) = (eqb t 0 || same (shape_mask x) (tag_mask t)) && agree ts xs

unfoldable pub admission : Module → Chunk → ℕ
admission m c =
    cond (leb m.signatures c.number || (eqb (length c.code) 0 || not (eqb (length c.params) c.arity))) 9
    (cond (agree c.tags c.params) 0 10)

-- the first reachable chunk that is not admitted: number and chunk
unfoldable pub admitted : Module → List Chunk → Option (ℕ × ℕ)
admitted m [] = none
admitted m (c ∷ cs) =
    cond (c.reachable && not (eqb (admission m c) 0)) (some (admission m c, c.number)) (admitted m cs)

-- ---- the declared facts
unfoldable pub declared_params : Module → Chunk → List Cell
declared_params m c = map (λ x. declared x m.owns) c.params

-- the private mask of a slot: its initializer's, or none
unfoldable pub init_mask : Module → ℕ → Mask
init_mask m n = cond (leb (length m.shared) n) (get_or m.inits (n - length m.shared) NONE) NONE

unfoldable pub first_facts : Module → Facts
first_facts m =
    record {
      inputs = map (declared_params m) (take m.signatures m.chunks);
      results = map (λ c. declared c.result m.owns) (take m.signatures m.chunks);
      masks = row (init_mask m) 0 m.slots;
      flows = replicate m.slots no_flow;
    }

-- 12: an initializer past the slots
unfoldable pub overfull : Module → Bool
overfull m = ltb 0 (length m.inits) && ltb m.slots (length m.shared + length m.inits)

-- ---- the reply: the entry's first parameter or Unit, joined with what every site replies
unfoldable pub site_reply : Module → Cell → Option Site → Cell
site_reply m so none = so
site_reply m so (some x) = join_cell so (declared x.reply m.owns)

unfoldable pub reply_in : Module → Cell → List Line → Cell
reply_in m so [] = so
reply_in m so (x ∷ xs) = reply_in m (site_reply m so x.site) xs

unfoldable pub replies : Module → Cell → List Chunk → Cell
replies m so [] = so
replies m so (c ∷ cs) = replies m (reply_in m so c.code) cs

unfoldable pub first_reply : List Cell → Cell
first_reply [] = unit_cell
first_reply (c ∷ cs) = c

unfoldable pub reply_cell : Module → Facts → Cell
reply_cell m f = replies m (first_reply (get_or f.inputs m.entry [])) m.chunks

-- 11: no bound
unfoldable pub bounded : Maybe ℕ → Option ℕ
bounded None = none
bounded (Some n) = some n

-- the largest body of a reply, if there is one
unfoldable pub reply_maximum : Cell → Option ℕ
reply_maximum c = bounded (maximum_of c.flow)

-- ---- a chunk suspends if it has a site or calls one that does
unfoldable pub is_site : Option Site → Bool
is_site none = false
is_site (some x) = true

unfoldable pub has_site : List Line → Bool
has_site [] = false
has_site (x ∷ xs) = is_site x.site || has_site xs

unfoldable pub calls_one : List Bool → List Line → Bool
calls_one ss [] = false
calls_one ss (x ∷ xs) = (eqb x.instr.op op_call && get_or ss x.instr.a false) || calls_one ss xs

-- one look at every chunk, what is found used at once
unfoldable pub suspend_more : List Chunk → List Bool → List Bool
suspend_more [] ss = ss
suspend_more (c ∷ cs) ss = suspend_more cs (set ss c.number (get_or ss c.number false || calls_one ss c.code))

unfoldable pub suspend_loop : ℕ → List Chunk → List Bool → List Bool
suspend_loop zero cs ss = ss
suspend_loop (suc n) cs ss = suspend_loop n cs (suspend_more cs ss)

unfoldable pub suspends : Module → List Bool
suspends m = suspend_loop (length m.chunks) m.chunks (map (λ c. has_site c.code) m.chunks)

unfoldable pub known_of : Module → Facts → Known
known_of m f = record { code = m; suspends = suspends m; reply = reply_cell m f }

-- ---- a chunk begins with its inputs, and Unit in its other locals
unfoldable pub filled : ℕ → List Cell → List Cell
filled zero cs = []
filled (suc n) [] = unit_cell ∷ filled n []
filled (suc n) (c ∷ cs) = c ∷ filled n cs

unfoldable pub start : Chunk → Facts → List (Option State)
start c f =
    set (replicate (length c.code) none) 0
    (some (record { stack = []; locals = filled c.locals (get_or f.inputs c.number []) }))

-- ---- after a chunk's validation: 16 and 17, by instruction
unfoldable pub last : List Cell → Cell
last [] = no_cell
last (c ∷ []) = c
last (c ∷ d ∷ cs) = last (d ∷ cs)

unfoldable pub under_eight : Maybe ℕ → Bool
under_eight None = true
under_eight (Some n) = ltb n 8

-- an inspection for ENUM needs a discriminant, one for STRUCT a receiver that is nothing else
unfoldable pub inspection_fault : Others → Cell → ℕ
inspection_fault (Tested k) c =
    cond (same k ENUM)
    (cond (has c.mask ENUM && under_eight (extent_minimum (get_or c.flow.bodies 3 absent))) 16 0)
    (cond (has c.mask STRUCT && not (same c.mask STRUCT)) 17 0)
inspection_fault Unknowns c = 0
inspection_fault Words c = 0
inspection_fault Checked c = 0
inspection_fault Copies c = 0
inspection_fault Status c = 0

unfoldable pub state_fault : Line → Option State → ℕ
state_fault x none = 0
state_fault x (some s) = inspection_fault (rule_of x.instr.op).others (last s.stack)

unfoldable pub inspected : Chunk → ℕ → List (Option State) → Option (ℕ × ℕ)
inspected c i [] = none
inspected c i (s ∷ ss) =
    cond (eqb (state_fault (line_at c i) s) 0) (inspected c (suc i) ss) (some (state_fault (line_at c i) s, i))

unfoldable pub after_chunk : Chunk → List (Option State) → Option (ℕ × ℕ)
after_chunk c ss = inspected c 0 ss
