-- The slots of the data layout: `slot` and `data_width` of types.rs, and what a read or a write of several slots is.
use Rattle.std.specs.Prelude.{ℕ, ◌+◌, ◌%◌, Bool, false, not, cond, ◌&&◌, ◌||◌, List, [], ◌∷◌, eqb, ltb, leb, length, get_or}
use Rattle.masks.specs.declared.Mask.{Mask}
use Rattle.masks.specs.Mask.{scalar, body, kind, union, within}
use Rattle.masks.specs.Names.{NONE, BODY, UNKNOWN, SCALARS, GUARDED}
use Rattle.widths.specs.declared.Width.{Width}
use Rattle.widths.specs.declared.Width.TheVariants.{Unknown as Wide}
use Rattle.widths.specs.Width.{join_width, scalar_width}
use Rattle.extents.specs.declared.Extent.{Extent}
use Rattle.extents.specs.Extent.{join_extent, exact_width}
use Rattle.flows.specs.declared.Flow.{Flow}
use Rattle.flows.specs.Flow.{join_flow, new_flow, no_flow, absent}
use Rattle.cells.specs.declared.Cell.{Cell}
use Rattle.description.specs.declared.Instr.{Instr}
use Rattle.ops.specs.declared.Data.{Data}
use Rattle.ops.specs.declared.Data.TheVariants.{NoSlot, OneSlot, ManySlots}
use Rattle.definition.specs.Module.{Module, row}
use Rattle.definition.specs.State.{Facts}

-- the slots that a data instruction names: one, or operand b of them
unfoldable pub slot_count : Instr → Data → ℕ
slot_count i NoSlot = 0
slot_count i OneSlot = 1
slot_count i ManySlots = i.b

unfoldable pub slots_from : Instr → Data → List ℕ
slots_from i d = row (λ k. k) i.a (slot_count i d)

unfoldable pub member : ℕ → List ℕ → Bool
member n [] = false
member n (x ∷ xs) = eqb x n || member n xs

-- a private composite stands there
unfoldable pub is_body : Module → ℕ → Bool
is_body m n = member n m.placed

unfoldable pub any_body : Module → List ℕ → Bool
any_body m [] = false
any_body m (n ∷ ns) = is_body m n || any_body m ns

-- a first slot that is a private scalar, with a body among the others
unfoldable pub crossed : Module → Instr → Data → Bool
crossed m i d = leb (length m.shared) i.a && (not (is_body m i.a) && any_body m (slots_from i d))

-- 13 past the slots, 14 where private scalars and bodies are crossed, 13 where an indexed access takes other than two; 0 for none
unfoldable pub data_fault : Module → Instr → Data → ℕ
data_fault m i NoSlot = 0
data_fault m i OneSlot = cond (ltb m.slots (i.a + 1)) 13 (cond (crossed m i OneSlot) 14 0)
data_fault m i ManySlots =
    cond (ltb m.slots (i.a + i.b)) 13 (cond (crossed m i ManySlots) 14 (cond (eqb i.taken 2) 0 13))

unfoldable pub shared_mask : ℕ → Mask
shared_mask k = cond (ltb k 8) (scalar k) (body (k % 128))

-- `slot`: a shared slot's declared kinds, a private one's that are worked out
unfoldable pub slot : Module → Facts → ℕ → Mask
slot m f n = cond (ltb n (length m.shared)) (shared_mask (get_or m.shared n 0)) (get_or f.masks n UNKNOWN)

-- `data_width`; the pool arithmetic of a placed slot changes no outcome, so its width is unknown here
unfoldable pub data_width : Module → Facts → ℕ → Width
data_width m f n = cond (is_body m n) Wide (scalar_width (slot m f n) m.float)

unfoldable pub kinds_in : Module → Facts → Mask → List ℕ → Mask
kinds_in m f so [] = so
kinds_in m f so (n ∷ ns) = kinds_in m f (union so (slot m f n)) ns

-- the first slot's width, if all have it
unfoldable pub width_in : Module → Facts → Width → List ℕ → Width
width_in m f so [] = so
width_in m f so (n ∷ ns) = width_in m f (join_width so (data_width m f n)) ns

unfoldable pub flow_in : Facts → Flow → List ℕ → Flow
flow_in f so [] = so
flow_in f so (n ∷ ns) = flow_in f (join_flow so (get_or f.flows n no_flow)) ns

unfoldable pub whole_extent : Extent → List Extent → Extent
whole_extent so [] = so
whole_extent so (x ∷ xs) = whole_extent (join_extent so x) xs

-- a private read: the joined flow of its slots; its width is exact where only a body is possible
unfoldable pub private_cell : Mask → Flow → Cell
private_cell k w =
    record {
      mask = k;
      width = cond (within (kind k) BODY) (exact_width (whole_extent absent w.bodies)) Wide;
      flow = w;
    }

unfoldable pub fresh : Mask → Width → Bool → Cell
fresh k w o = record { mask = k; width = w; flow = new_flow k w o }

-- what a read of these slots gives, the first of them n
unfoldable pub read_slots : Module → Facts → ℕ → List ℕ → Cell
read_slots m f n ns =
    cond (is_body m n)
    (private_cell (kinds_in m f NONE ns) (flow_in f no_flow ns))
    (fresh (kinds_in m f NONE ns) (width_in m f (data_width m f n) ns) false)

-- what a slot takes: a body's any packed kind, a private scalar's any scalar, a shared one's its own
unfoldable pub slot_allows : Module → Facts → ℕ → Mask
slot_allows m f n = cond (is_body m n) GUARDED (cond (ltb n (length m.shared)) (slot m f n) SCALARS)
