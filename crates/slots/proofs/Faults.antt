-- An access by its slots first to end is one by the instruction's list of them.
use Prim.Native.Nat.{ℕ, ◌+◌, ◌-◌}
use native.Mathlib.Omega.{arith}
use mathlib.Core.Path.{◌≡◌, sym, ap, ◌∙◌}
use mathlib.Core.Bool.{Bool, true, false, not, ◌&&◌, and_assoc}
use lib.Dec.{eqb, leb}
use lib.ListN.{length}
use Rattle.description.specs.declared.Instr.{Instr}
use Rattle.ops.specs.declared.Data.{Data}
use Rattle.ops.specs.declared.Data.TheVariants.{OneSlot, ManySlots}
use Rattle.definition.specs.Module.{Module, row}
use Rattle.definition.specs.Data.{is_body, any_body, slot_count, slots_from, crossed, data_fault}
use Rattle.visit.specs.declared.slot_range.Slots.{Slots}
use Rattle.visit.specs.Slots.{list_of}
use Rattle.slots.specs.Slots.{crossed_by, access_fault}

-- a test of the first slot, and then one of all
module _ (m : Module) (r : Slots) (shared : ℕ) (placed : Bool) (e : shared ≡ length m.shared) (p : placed ≡ is_body m r.first) where
  tested : crossed_by m r ≡ (leb shared r.first && not placed) && any_body m (list_of r)
  unfolding crossed_by
  tested = rw (e, p) (sym (and_assoc (leb (length m.shared) r.first) (not (is_body m r.first)) (any_body m (list_of r))))

  pub crossed-all : leb shared r.first && not placed ≡ true → any_body m (list_of r) ≡ crossed_by m r
  crossed-all t = sym (tested ∙ ap (λ (b : Bool). b && any_body m (list_of r)) t)

  pub crossed-not : leb shared r.first && not placed ≡ false → false ≡ crossed_by m r
  crossed-not t = sym (tested ∙ ap (λ (b : Bool). b && any_body m (list_of r)) t)

-- the slots of an instruction
module _ (i : Instr) (d : Data) (r : Slots) (f : r.first ≡ i.a) (e : r.end ≡ i.a + slot_count i d) where
  pub listed : list_of r ≡ slots_from i d
  unfolding list_of slots_from
  listed =
      let n : r.end - r.first ≡ slot_count i d = omega arith in
      ap (λ (k : ℕ). row (λ j. j) k (r.end - r.first)) f ∙ ap (row (λ j. j) i.a) n

  crossed-is : (m : Module) → crossed_by m r ≡ crossed m i d
  unfolding crossed_by crossed
  crossed-is m = rw (listed, f)

pub fault-one : (m : Module) (i : Instr) (r : Slots) → r.first ≡ i.a → r.end ≡ i.a + slot_count i OneSlot
    → access_fault m r true ≡ data_fault m i OneSlot
unfolding access_fault data_fault slot_count
fault-one m i r f e = rw (crossed-is i OneSlot r f e m, e)

pub fault-many : (m : Module) (i : Instr) (r : Slots) → r.first ≡ i.a → r.end ≡ i.a + slot_count i ManySlots
    → access_fault m r (eqb i.taken 2) ≡ data_fault m i ManySlots
unfolding access_fault data_fault slot_count
fault-many m i r f e = rw (crossed-is i ManySlots r f e m, e)
