-- `slots::slot_mask` meets its contract.
use native.Mathlib.Omega.{arith}
use mathlib.Core.Path.{sym, ap, ◌∙◌}
use Prim.Native.Nat.{ℕ}
use Rattle.definition.specs.Data.{shared_mask}
use Rattle.words.specs.Layout.{cell_at}
use Rattle.layout.proofs.Read.{slots-are, shared-are, slot-known}
use Rattle.slots.proofs.Walk.{slot-shared, slot-private, slot-past}
use Rattle.slots.proofs.slot_mask.Goals as goal

pub returns-then-n-t : goal.returns-then-n-t
returns-then-n-t c =
    let a = c.args in
    let p = c.requires in
    c.shared_mask.ensures ∙ ap shared_mask c.shared_kind.ensures
    ∙ sym (slot-shared a.s.now a.ws.now a.n (omega (arith, c.if-n-t.true, shared-are a.s.now a.t p.t_value)))

pub slot_at-requires : goal.slot_at-requires
slot_at-requires c =
    let a = c.args in
    let p = c.requires in
    let r = slot-known a.s.now a.ws.now a.t a.n p.indexed p.t_value c.if-n-t-2.true in
    omega arith

pub mask_at-requires : goal.mask_at-requires
mask_at-requires c =
    let a = c.args in
    let p = c.requires in
    let r = slot-known a.s.now a.ws.now a.t a.n p.indexed p.t_value c.if-n-t-2.true in
    omega arith

pub returns-then-n-t-2 : goal.returns-then-n-t-2
returns-then-n-t-2 c =
    let a = c.args in
    let p = c.requires in
    let r = slot-known a.s.now a.ws.now a.t a.n p.indexed p.t_value c.if-n-t-2.true in
    c.mask_at.ensures ∙ ap (λ (n : ℕ). (cell_at a.ws.now n).mask) (c.slot_at.ensures ∙ r.at)
    ∙ sym (slot-private a.s.now a.ws.now a.n (omega (arith, c.if-n-t.false, shared-are a.s.now a.t p.t_value)) r.there)

pub returns : goal.returns
returns c =
    let a = c.args in
    let p = c.requires in
    sym (slot-past a.s.now a.ws.now a.n
    (omega (arith, c.if-n-t.false, shared-are a.s.now a.t p.t_value))
    (omega (arith, c.if-n-t-2.false, slots-are a.s.now a.t p.t_value)))
