-- What one visit, a join of states and the end of a chunk are refused by: 13 to 18. Of any property that these numbers have.
use Prim.Native.Nat.{ℕ, suc, ◌+◌}
use mathlib.Core.Path.{◌≡◌, refl}
use mathlib.Core.Bool.{Bool, true, false, not, cond, ◌&&◌, ◌||◌}
use mathlib.Core.Option.{Option, none, some}
use mathlib.Core.List.{List, [], ◌∷◌}
use lib.Dec.{eqb, ltb}
use lib.ListN.{length, get_or}
use Rattle.masks.specs.Mask.{has, same}
use Rattle.masks.specs.Names.{STRUCT, ENUM}
use Rattle.extents.specs.Extent.{extent_minimum}
use Rattle.flows.specs.Flow.{absent}
use Rattle.cells.specs.declared.Cell.{Cell}
use Rattle.description.specs.declared.Instr.{Instr}
use Rattle.ops.specs.declared.Data.{Data}
use Rattle.ops.specs.declared.Data.TheVariants.{NoSlot, OneSlot, ManySlots}
use Rattle.ops.specs.declared.Others.{Others}
use Rattle.ops.specs.declared.Others.TheVariants.{Unknowns, Words, Checked, Copies, Tested, Status}
use Rattle.definition.specs.Module.{Module, Chunk, Line}
use Rattle.definition.specs.State.{State, Facts, join_if, join}
use Rattle.definition.specs.Data.{crossed, data_fault}
use Rattle.definition.specs.Outputs.{Visit, instr}
use Rattle.definition.specs.Wants.{checks, all_proven, unpacked, unfit}
use Rattle.definition.specs.Ways.{after}
use Rattle.definition.specs.Leaves.{Known, line_at, hopeless, nothing_below, always, height_fault, visited, leaves}
use Rattle.definition.specs.Start.{under_eight, inspection_fault, state_fault, inspected, after_chunk}
use Rattle.refusal_laws.proofs.Only.{either, OfFault, OfRes, OfPlace, unless-of, there}

module _ (P : ℕ → Type 0) (p13 : P 13) (p14 : P 14) (p15 : P 15) (p16 : P 16) (p17 : P 17) (p18 : P 18) where
  -- ---- the rule of an instruction
  data_of : (m : Module) (i : Instr) (d : Data) → OfFault P (data_fault m i d)
  unfolding data_fault
  data_of m i NoSlot = tt
  data_of m i OneSlot = either (OfFault P) (ltb m.slots (i.a + 1)) p13 (either (OfFault P) (crossed m i OneSlot) p14 tt)
  data_of m i ManySlots =
      either (OfFault P) (ltb m.slots (i.a + i.b)) p13
      (either (OfFault P) (crossed m i ManySlots) p14 (either (OfFault P) (eqb i.taken 2) tt p13))

  always-of : (v : Visit) → OfFault P (always v)
  unfolding always
  always-of v =
      either (OfFault P) (ltb v.height (instr v).taken || (hopeless v.rule.asks (instr v).a || nothing_below v)) p13
      (data_of v.code (instr v) v.rule.slots)

  unfit-of : (v : Visit) → OfFault P (unfit v)
  unfolding unfit
  unfit-of v = either (OfFault P) (all_proven (checks v)) (either (OfFault P) (unpacked v v.rule.makes) p15 tt) p13

  height-of : (v : Visit) → OfFault P (height_fault v)
  height-of v = either (OfFault P) (ltb v.chunk.stack (length (after v).stack)) p18 tt

  visited-of : (b : Bool) (v : Visit) → OfRes P (visited b v)
  unfolding visited
  visited-of b v =
      unless-of P (always v) _ (always-of v)
      (unless-of P (cond b (unfit v) 0) _ (either (OfFault P) b (unfit-of v) tt) (unless-of P (height_fault v) _ (height-of v) tt))

  pub leaves_of : (k : Known) (b : Bool) (c : Chunk) (f : Facts) (i : ℕ) (s : State) → OfRes P (leaves k b c f i s)
  unfolding leaves
  leaves_of k b c f i s = visited-of b _

  -- ---- joins
  join-if : (b : Bool) (x y : State) → OfRes P (join_if b x y)
  unfolding join_if
  join-if true x y = tt
  join-if false x y = p18

  pub join-of : (x y : State) → OfRes P (join x y)
  unfolding join
  join-of x y = join-if _ x y

  -- ---- what follows a chunk
  inspection-of : (o : Others) (c : Cell) → OfFault P (inspection_fault o c)
  unfolding inspection_fault
  inspection-of (Tested k) c =
      either (OfFault P) (same k ENUM)
      (either (OfFault P) (has c.mask ENUM && under_eight (extent_minimum (get_or c.flow.bodies 3 absent))) p16 tt)
      (either (OfFault P) (has c.mask STRUCT && not (same c.mask STRUCT)) p17 tt)
  inspection-of Unknowns c = tt
  inspection-of Words c = tt
  inspection-of Checked c = tt
  inspection-of Copies c = tt
  inspection-of Status c = tt

  state-of : (x : Line) (o : Option State) → OfFault P (state_fault x o)
  unfolding state_fault
  state-of x none = tt
  state-of x (some s) = inspection-of _ _

  inspected-of : (c : Chunk) (i : ℕ) (ss : List (Option State)) → OfPlace P (inspected c i ss)
  unfolding inspected
  inspected-of c i [] = tt
  inspected-of c i (s ∷ ss) = go (eqb (state_fault (line_at c i) s) 0) refl (inspected-of c (suc i) ss)
    where
      go : (b : Bool) → eqb (state_fault (line_at c i) s) 0 ≡ b → OfPlace P (inspected c (suc i) ss)
          → OfPlace P (cond b (inspected c (suc i) ss) (some (state_fault (line_at c i) s, i)))
      go true e h = h
      go false e h = there P _ (state-of (line_at c i) s) e

  pub after-of : (c : Chunk) (ss : List (Option State)) → OfPlace P (after_chunk c ss)
  unfolding after_chunk
  after-of c ss = inspected-of c 0 ss
