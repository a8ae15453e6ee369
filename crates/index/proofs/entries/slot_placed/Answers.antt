-- `index::entries::slot_placed` meets its contract.
use native.Mathlib.Omega.{arith}
use mathlib.Core.Path.{ap, ◌∙◌}
use Prim.Native.Nat.{ℕ, ◌+◌}
use lib.Dec.{ltb}
use lib.ListN.{get_or}
use Rattle.layout.proofs.Read.{slots-are, past_is, slot-known}
use Rattle.definition.specs.Module.{module_of}
use Rattle.definition.specs.Data.{is_body}
use Rattle.index.proofs.entries.slot_placed.Goals as goal

pub slot_at-at-requires : goal.slot_at-at-requires
slot_at-at-requires c =
    let a = c.args in
    let p = c.requires in
    let r = slot-known a.s.now a.ws.now a.t a.slot p.indexed p.t_value c.if-slot-t.true in
    omega arith

pub offset_bounds-ws-at : goal.offset_bounds-ws-at
offset_bounds-ws-at c =
    let a = c.args in
    let p = c.requires in
    let r = slot-known a.s.now a.ws.now a.t a.slot p.indexed p.t_value c.if-slot-t.true in
    omega arith

pub bounds-ws-at : goal.bounds-ws-at
bounds-ws-at c =
    let a = c.args in
    let p = c.requires in
    let r = slot-known a.s.now a.ws.now a.t a.slot p.indexed p.t_value c.if-slot-t.true in
    omega arith

pub returns-then-slot-t : goal.returns-then-slot-t
returns-then-slot-t c =
    let a = c.args in
    let p = c.requires in
    let r = slot-known a.s.now a.ws.now a.t a.slot p.indexed p.t_value c.if-slot-t.true in
    ap (λ (n : ℕ). ltb 65535 (get_or a.ws.now (n + 15) 0)) (c.slot_at-at.ensures ∙ r.at) ∙ r.mark

pub returns : goal.returns
returns c =
    let a = c.args in
    let p = c.requires in
    past_is a.s.now a.t p.t_value
    ∙ ap (is_body (module_of a.s.now)) (omega (arith, slots-are a.s.now a.t p.t_value, c.if-slot-t.false, p.slot_le_slots))
