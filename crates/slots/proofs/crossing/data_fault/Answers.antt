-- `slots::crossing::data_fault` meets its contract.
use Prim.Native.Nat.{◌+◌}
use mathlib.Core.Path.{◌≡◌, ◌∙◌}
use Rattle.definition.specs.Data.{slot_count, data_fault}
use Rattle.ops.specs.declared.Data.TheVariants.{OneSlot, ManySlots}
use native.Mathlib.Omega.{arith}
use Rattle.definition.specs.Module.{module_of}
use Rattle.slots.proofs.Faults.{fault-one, fault-many}
use Rattle.slots.proofs.crossing.data_fault.Goals as goal

pub access_fault-requires : goal.access_fault-requires
access_fault-requires c = record { indexed = c.requires.indexed; t_value = c.requires.t_value; first_le_end = omega (arith, c.slots_of.ensures) }

pub access_fault-requires-in-ManySlots : goal.access_fault-requires-in-ManySlots
access_fault-requires-in-ManySlots c = record { indexed = c.requires.indexed; t_value = c.requires.t_value; first_le_end = omega (arith, c.slots_of-in-ManySlots.ensures) }

pub returns-in-NoSlot : goal.returns-in-NoSlot
unfolding data_fault
returns-in-NoSlot c = rw c.in-NoSlot.is

pub returns-in-OneSlot : goal.returns-in-OneSlot
returns-in-OneSlot c =
    let a = c.args in
    let e : a.slots ≡ OneSlot = c.in-OneSlot.is in
    let r = c.slots_of.result in
    let w : r.end ≡ a.ins.a + slot_count a.ins OneSlot = rw e at c.slots_of.ensures.1 in
    rw e (c.access_fault.ensures ∙ fault-one (module_of a.s.now) a.ins r c.slots_of.ensures.0 w)

pub returns-in-ManySlots : goal.returns-in-ManySlots
returns-in-ManySlots c =
    let a = c.args in
    let e : a.slots ≡ ManySlots = c.in-ManySlots.is in
    let r = c.slots_of-in-ManySlots.result in
    let w : r.end ≡ a.ins.a + slot_count a.ins ManySlots = rw e at c.slots_of-in-ManySlots.ensures.1 in
    rw e (c.access_fault-in-ManySlots.ensures ∙ fault-many (module_of a.s.now) a.ins r c.slots_of-in-ManySlots.ensures.0 w)
