-- What a visit that is not refused says.
use Prim.Native.Nat.{ℕ, ◌+◌, ◌≤◌}
use native.Mathlib.Omega.{arith}
use mathlib.Core.Path.{◌≡◌, refl}
use mathlib.Core.Bool.{Bool, true, false, cond, ◌||◌}
use lib.Dec.{ltb}
use lib.ListN.{length}
use borrow.Author.Tests.{ltb-false}
use Rattle.masks.proofs.Both.{never}
use Rattle.description.specs.declared.Instr.{Instr}
use Rattle.ops.specs.declared.Data.{Data}
use Rattle.ops.specs.declared.Data.TheVariants.{NoSlot, OneSlot, ManySlots}
use Rattle.definition.specs.Module.{Module}
use Rattle.definition.specs.Data.{slot_count, data_fault}
use Rattle.definition.specs.Outputs.{Visit, instr}
use Rattle.definition.specs.Ways.{after}
use Rattle.definition.specs.Leaves.{hopeless, nothing_below, always, height_fault}
use Rattle.rule_laws.proofs.Told.{names_slots}

-- the first of a row of tests failed, and the rest is no fault
pub no-fault : (a : Bool) (n : ℕ) → ◌≡◌ {A = ℕ} (cond a 13 n) 0 → (a ≡ false) × (n ≡ 0)
no-fault true n h = absurd (omega arith)
no-fault false n h = (refl, h)

pub always-parts : (v : Visit) → always v ≡ 0
    → ((ltb v.height (instr v).taken || (hopeless v.rule.asks (instr v).a || nothing_below v)) ≡ false)
    × (data_fault v.code (instr v) v.rule.slots ≡ 0)
unfolding always
always-parts v h = no-fault (ltb v.height (instr v).taken || (hopeless v.rule.asks (instr v).a || nothing_below v)) _ h

slots_end : (m k n : ℕ) → ◌≡◌ {A = ℕ} (cond (ltb m k) 13 n) 0 → k ≤ m
slots_end m k n h = ltb-false m k (no-fault (ltb m k) n h).0

-- the slots that an instruction names are there
pub named_end : (m : Module) (i : Instr) (d : Data) → names_slots d ≡ true → data_fault m i d ≡ 0 → i.a + slot_count i d ≤ m.slots
unfolding data_fault slot_count
named_end m i NoSlot n h = never n
named_end m i OneSlot n h = slots_end _ _ _ h
named_end m i ManySlots n h = slots_end _ _ _ h

pub low-enough : (v : Visit) → height_fault v ≡ 0 → length (after v).stack ≤ v.chunk.stack
low-enough v h = ltb-false v.chunk.stack (length (after v).stack) (go _ h)
  where
    go : (b : Bool) → ◌≡◌ {A = ℕ} (cond b 18 0) 0 → b ≡ false
    go true h = absurd (omega arith)
    go false h = refl
