-- What a visit gives has its place among the facts: a write's slots, a `Return`'s chunk, a call's arguments.
use Prim.Native.Nat.{ℕ, zero, suc, ◌+◌, ◌<◌, ◌≤◌}
use native.Mathlib.Omega.{arith}
use mathlib.Core.Path.{◌≡◌, refl, ap}
use mathlib.Core.Logic.{◌⊎◌, inl, inr}
use mathlib.Core.Bool.{Bool, true, false, cond}
use mathlib.Core.List.Memᴰ
use mathlib.Core.List.{List, [], ◌∷◌, Memᴰ}
use lib.Dec.{ltb}
use lib.ListN.{length, get_or, length-map, length-take, length-drop}
use borrow.Author.Tests.{ltb-false}
use Rattle.cells.specs.Cell.{bare_cell}
use Rattle.description.specs.declared.Instr.{Instr}
use Rattle.ops.specs.declared.Acts.{Acts}
use Rattle.ops.specs.declared.Acts.TheVariants.{Still, SetsLocal, Yields, Calls, Returns, Resets, Stores}
use Rattle.ops.specs.declared.Data.{Data}
use Rattle.ops.specs.declared.Data.TheVariants.{NoSlot, OneSlot, ManySlots}
use Rattle.ops.specs.Ops.{rule_of}
use Rattle.definition.specs.Module.{Module, Chunk, row}
use Rattle.definition.specs.State.{State, Facts, Gift, nothing, arguments, returned, written}
use Rattle.definition.specs.Data.{slot_count, slots_from, data_fault}
use Rattle.definition.specs.Outputs.{Visit, instr}
use Rattle.definition.specs.Wants.{is_entry}
use Rattle.definition.specs.Wants.{returned as value_below}
use Rattle.definition.specs.Leaves.{Known, visit_of, always, gives_by, gives, line_at}
use Rattle.definition.specs.Start.{first_facts}
use Rattle.rule_laws.proofs.Faults.{no-fault, always-parts}
use Rattle.rule_laws.proofs.Told.{call-is}
pub use Rattle.consistent.specs.Calls.{CallsFit}
use Rattle.consistent.proofs.Absorb.{Declared}
use Rattle.consistent.proofs.Records.{Numbered, as_many, first-masks}

-- ---- slots
row_below : (i k n : ℕ) → Memᴰ n (row (λ j. j) i k) → n < i + k
unfolding row
row_below i zero n h = absurd (Memᴰ.not-nil h)
row_below i (suc k) n h = go (row_below (suc i) k n) (Memᴰ.cases_cons h)
  where
    go : (Memᴰ n (row (λ j. j) (suc i) k) → n < suc i + k) → (n ≡ i) ⊎ Memᴰ n (row (λ j. j) (suc i) k) → n < i + suc k
    go below (inl e) = omega arith
    go below (inr h) = let l = below h in omega arith

slots-below : (m : Module) (i : Instr) (d : Data) → data_fault m i d ≡ 0 → (n : ℕ) → Memᴰ n (slots_from i d) → n < m.slots
unfolding data_fault slots_from slot_count row
slots-below m i NoSlot h n k = absurd (Memᴰ.not-nil k)
slots-below m i OneSlot h n k =
    let l = row_below i.a 1 n k in
    omega (arith, ltb-false m.slots (i.a + 1) (no-fault (ltb m.slots (i.a + 1)) _ h).0)
slots-below m i ManySlots h n k =
    let l = row_below i.a i.b n k in
    omega (arith, ltb-false m.slots (i.a + i.b) (no-fault (ltb m.slots (i.a + i.b)) _ h).0)

-- ---- chunks
number-below : (n : ℕ) (cs : List Chunk) → Numbered n cs → (c : Chunk) → Memᴰ c cs → c.number < n + length cs
number-below n [] k c h = absurd (Memᴰ.not-nil h)
number-below n (x ∷ xs) k c h = go (number-below (suc n) xs k.1 c) (Memᴰ.cases_cons h)
  where
    go : (Memᴰ c xs → c.number < suc n + length xs) → (c ≡ x) ⊎ Memᴰ c xs → c.number < n + suc (length xs)
    go below (inl e) = omega (arith, ap (λ (z : Chunk). z.number) e, k.0)
    go below (inr h) = let l = below h in omega arith

signed_below : (m : Module) → Numbered 0 m.chunks → (c : Chunk) → Memᴰ c m.chunks → c.number < m.signatures
    → c.number < length (first_facts m).inputs
unfolding first_facts
signed_below m k c h l =
    let l' = number-below 0 m.chunks k c h in
    rw (length-map, length-take) (omega arith)

-- ---- any gift
abbrev pub Placed : Facts → Gift → Type 0
Placed f nothing = Unit {0}
Placed f (arguments n cs) = length cs ≤ length (get_or f.inputs n [])
Placed f (returned n c) = n < length f.results
Placed f (written ns c) = (n : ℕ) → Memᴰ n ns → n < length f.masks

placed_by : (f : Facts) (v : Visit) (a : Acts) → (a ≡ Calls → length v.args ≤ length (get_or f.inputs (instr v).a []))
    → v.chunk.number < length f.results → ((n : ℕ) → Memᴰ n (slots_from (instr v) v.rule.slots) → n < length f.masks)
    → Placed f (gives_by v a)
unfolding gives_by
placed_by f v Calls p q r = rw (length-map v.args bare_cell) (p refl)
placed_by f v Returns p q r = go (is_entry v)
  where
    go : (b : Bool) → Placed f (cond b nothing (returned v.chunk.number (bare_cell (value_below v))))
    go true = tt
    go false = q
placed_by f v Stores p q r = r
placed_by f v Still p q r = tt
placed_by f v SetsLocal p q r = tt
placed_by f v Yields p q r = tt
placed_by f v Resets p q r = tt

pub placed : (k : Known) → Numbered 0 k.code.chunks → CallsFit k.code → (f : Facts) → Declared k.code f → (c : Chunk)
    → Memᴰ c k.code.chunks → c.number < k.code.signatures → (i : ℕ) (s : State)
    → always (visit_of k c f i s) ≡ 0 → Placed f (gives (visit_of k c f i s))
unfolding gives visit_of
placed k numbers calls f z c h l i s w =
    let x = (line_at c i).instr in
    placed_by f (visit_of k c f i s) (rule_of x.op).acts
    (λ u. rw (length-drop, z.rows x.a) (omega (arith, calls c h i (call-is x.op u))))
    (rw (as_many k.code f z, z.inputs.size) (signed_below k.code numbers c h l))
    (λ n q. rw (z.masks.size, first-masks k.code) (slots-below k.code x (rule_of x.op).slots (always-parts (visit_of k c f i s) w).1 n q))
