-- A visit that nothing refuses whatever the mode: a `Return` has its value, and what is written stands within the slots.
use Prim.Native.Nat.{ℕ, ◌+◌, ◌<◌, ◌≤◌}
use native.Mathlib.Omega.{arith}
use mathlib.Core.Path.{◌≡◌, refl, sym, ap, ◌∙◌}
use mathlib.Core.Bool.{Bool, true, false, cond}
use mathlib.Core.List.{List}
use lib.Dec.{eqb, ltb}
use lib.ListN.{length}
use borrow.Author.Tests.{eqb-false}
use Rattle.masks.specs.declared.Mask.{Mask}
use Rattle.masks.specs.Mask.{common, one_kind}
use Rattle.masks.specs.Names.{NONE}
use Rattle.description.specs.declared.Instr.{Instr}
use Rattle.ops.specs.declared.Asks.{Asks}
use Rattle.ops.specs.declared.Asks.TheVariants.{Free, First as OneWithin, Both as TwoWithin, Yielded, Returned, Every as EachWithin, Ordered, Same, Stored, PartOf, Never as NotProven}
use Rattle.ops.specs.declared.Acts.TheVariants.{Returns}
use Rattle.ops.specs.declared.Data.{Data}
use Rattle.ops.specs.declared.Data.TheVariants.{NoSlot, OneSlot, ManySlots}
use Rattle.ops.specs.declared.Rule.{Rule}
use Rattle.definition.specs.declared.Ask.{Ask}
use Rattle.definition.specs.declared.Ask.TheVariants.{Nothing, First, Both, Every, Below, Writes, WritesIndexed, Never}
use Rattle.definition.specs.declared.Want.{Want}
use Rattle.definition.specs.Module.{Module, module_of}
use Rattle.definition.specs.Data.{slot_count, data_fault}
use Rattle.definition.specs.Outputs.{Visit, instr}
use Rattle.definition.specs.Wants.{wants, nothing, never, every, same, stored, returned_want, part_want, want_by, want_of}
use Rattle.definition.specs.Leaves.{hopeless, is_return, nothing_below, always}
use Rattle.visit.specs.declared.RowVisit.{RowVisit}
use Rattle.visit.specs.Held.{visit_in}
use Rattle.visit.proofs.Visits.{below-long}
use Rattle.visit.proofs.operands.Parts.{code_is, ins-is, rule-is}
use Rattle.masks.proofs.Both.{neither}
use Rattle.rule_laws.proofs.Told.{names_slots, asks-returned, asks-stored}
use Rattle.rule_laws.proofs.Faults.{always-parts, named_end}
use Rattle.checks.specs.asked.Proving.{Asking}

-- ---- what an ask says of the rule: 1 for the value below, 2 for what is written
abbrev class_of : Ask → ℕ
class_of Below = 1
class_of Writes = 2
class_of WritesIndexed = 2
class_of Nothing = 0
class_of First = 0
class_of Both = 0
class_of Every = 0
class_of Never = 0

every-class : (m : Mask) → class_of (every m).ask ≡ 0
unfolding every
every-class m = go (eqb m.bits 0)
  where
    go : (b : Bool) → class_of (cond b never (wants Every m NONE)).ask ≡ 0
    go true = refl
    go false = refl

same_class : (m k : Mask) → class_of (same m k).ask ≡ 0
unfolding same
same_class m k = go (one_kind (common m k))
  where
    go : (b : Bool) → class_of (cond b (every (common m k)) never).ask ≡ 0
    go true = every-class (common m k)
    go false = refl

stored-class : (d : Data) → class_of (stored d).ask ≡ 2
unfolding stored
stored-class NoSlot = refl
stored-class OneSlot = refl
stored-class ManySlots = refl

part-class : (b : Bool) (k : Mask) → class_of (cond b never (wants First k NONE)).ask ≡ 0
part-class true k = refl
part-class false k = refl

returned-class : (b : Bool) (k : Mask) → class_of (cond b (wants Below k NONE) nothing).ask ≤ 1
returned-class true k = omega arith
returned-class false k = omega arith

module _ (d : Data) (i : Instr) (all pair declared : Mask) (entry : Bool) where
  stored-alone : (x : Asks) → class_of (want_by x d i all pair declared entry).ask ≡ 2 → x ≡ Stored
  unfolding want_by returned_want part_want
  stored-alone Free h = absurd (omega arith)
  stored-alone (OneWithin m) h = absurd (omega arith)
  stored-alone (TwoWithin m n) h = absurd (omega arith)
  stored-alone Yielded h = absurd (omega arith)
  stored-alone Returned h = absurd (omega (arith, h, returned-class entry declared))
  stored-alone (EachWithin m) h = absurd (omega (arith, sym (every-class _) ∙ h))
  stored-alone Ordered h = absurd (omega (arith, sym (every-class _) ∙ h))
  stored-alone (Same k) h = absurd (omega (arith, sym (same_class _ k) ∙ h))
  stored-alone Stored h = refl
  stored-alone (PartOf k) h = absurd (omega (arith, sym (part-class (ltb 1 i.a) k) ∙ h))
  stored-alone NotProven h = absurd (omega arith)

  below-alone : (x : Asks) → class_of (want_by x d i all pair declared entry).ask ≡ 1 → x ≡ Returned
  unfolding want_by returned_want part_want
  below-alone Free h = absurd (omega arith)
  below-alone (OneWithin m) h = absurd (omega arith)
  below-alone (TwoWithin m n) h = absurd (omega arith)
  below-alone Yielded h = absurd (omega arith)
  below-alone Returned h = refl
  below-alone (EachWithin m) h = absurd (omega (arith, sym (every-class _) ∙ h))
  below-alone Ordered h = absurd (omega (arith, sym (every-class _) ∙ h))
  below-alone (Same k) h = absurd (omega (arith, sym (same_class _ k) ∙ h))
  below-alone Stored h = absurd (omega (arith, sym (stored-class d) ∙ h))
  below-alone (PartOf k) h = absurd (omega (arith, sym (part-class (ltb 1 i.a) k) ∙ h))
  below-alone NotProven h = absurd (omega arith)

wants-stored : (v : Visit) → class_of (want_of v).ask ≡ 2 → v.rule.asks ≡ Stored
unfolding want_of
wants-stored v h = stored-alone _ _ _ _ _ _ v.rule.asks h

wants-below : (v : Visit) → class_of (want_of v).ask ≡ 1 → v.rule.asks ≡ Returned
unfolding want_of
wants-below v h = below-alone _ _ _ _ _ _ v.rule.asks h

-- ---- what is not refused
module _ (v : Visit) (f : always v ≡ 0) where
  returns-some : v.rule.acts ≡ Returns → 0 < length v.below
  unfolding is_return
  returns-some e =
      let a : nothing_below v ≡ false =
      (neither (hopeless v.rule.asks (instr v).a) (nothing_below v) (neither (ltb v.height (instr v).taken) _ (always-parts v f).0).1).1 in
      let b : eqb (length v.below) 0 ≡ false = rw e at a in
      let n = eqb-false (length v.below) 0 b in
      omega arith

module _ (s ws : List ℕ) (v : RowVisit) (w : Want) (a : Asking s ws v w) where
  asks-as : class_of w.ask ≡ class_of (want_of (visit_in s ws v)).ask
  asks-as = ap (λ (u : Want). class_of u.ask) a.want

  -- what the value below asks for is there
  pub below-some : w.ask ≡ Below → 0 < v.start
  below-some e =
      let x = a.looking in
      let c : class_of (want_of (visit_in s ws v)).ask ≡ 1 = sym asks-as ∙ ap class_of e in
      let r = asks-returned v.ins.op (ap (λ (u : Rule). u.asks) (sym x.rule ∙ rule-is s ws v x) ∙ wants-below _ c) in
      let q : (visit_in s ws v).rule.acts ≡ Returns = ap (λ (u : Rule). u.acts) (sym (rule-is s ws v x) ∙ x.rule) ∙ r in
      omega (arith, returns-some (visit_in s ws v) a.fine q, below-long s ws v x)

  -- the slots that are written are there
  writes-room : class_of w.ask ≡ 2 → v.ins.a + slot_count v.ins v.rule.slots ≤ (module_of s).slots
  writes-room e =
      let x = a.looking in
      let n = asks-stored v.ins.op (ap (λ (u : Rule). u.asks) (sym x.rule ∙ rule-is s ws v x) ∙ wants-stored _ (sym asks-as ∙ e)) in
      let k : names_slots v.rule.slots ≡ true = ap (λ (u : Rule). names_slots u.slots) x.rule ∙ n in
      let d = (always-parts (visit_in s ws v) a.fine).1 in
      named_end (module_of s) v.ins v.rule.slots k
      (ap (λ (u : Rule). data_fault (module_of s) v.ins u.slots) (rule-is s ws v x)
      ∙ ap (λ (i : Instr). data_fault (module_of s) i (visit_in s ws v).rule.slots) (ins-is s ws v x)
      ∙ ap (λ (m : Module). data_fault m (instr (visit_in s ws v)) (visit_in s ws v).rule.slots) (sym (code_is s ws v)) ∙ d)

  pub writes_one : w.ask ≡ Writes → v.ins.a + slot_count v.ins v.rule.slots ≤ (module_of s).slots
  writes_one e = writes-room (ap class_of e)

  pub writes-many : w.ask ≡ WritesIndexed → v.ins.a + slot_count v.ins v.rule.slots ≤ (module_of s).slots
  writes-many e = writes-room (ap class_of e)
