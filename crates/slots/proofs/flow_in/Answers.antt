-- `slots::flow_in` meets its contract. Invariant: the slots from k on, beside what is gathered, give the whole.
use Prim.Native.Nat.{◌+◌}
use native.Mathlib.Omega.{arith}
use mathlib.Core.Path.{sym, ap, ◌∙◌}
use Rattle.flows.specs.declared.Flow.{Flow}
use Rattle.flows.specs.Flow.{join_flow}
use Rattle.cells.specs.declared.Cell.{Cell}
use Rattle.words.specs.Layout.{cell_at}
use Rattle.definition.specs.Module.{module_of}
use Rattle.definition.specs.Data.{flow_in}
use Rattle.layout.proofs.Read.{slot-known}
use Rattle.visit.specs.Held.{facts_in}
use Rattle.visit.specs.Slots.{list_of}
use Rattle.slots.proofs.Walk.{from, from_first, flow-turn, flow-end, flow-here}
use Rattle.slots.proofs.flow_in.Goals as goal

pub loop-k-init : goal.loop-k-init
loop-k-init c =
    let a = c.args in
    let f = facts_in a.s.now a.ws.now in
    ap (flow_in f c.none-f.result) (from_first a.r) ∙ ap (λ (w : Flow). flow_in f w (list_of a.r)) c.none-f.ensures

pub slot_at-requires : goal.slot_at-requires
slot_at-requires c =
    let a = c.args in
    let p = c.requires in
    let r = slot-known a.s.now a.ws.now a.t c.loop-k.k p.indexed p.t_value (omega (arith, c.loop-k-test.true, p.end_le_slots)) in
    omega arith

pub load-c-requires : goal.load-c-requires
load-c-requires c =
    let a = c.args in
    let p = c.requires in
    let r = slot-known a.s.now a.ws.now a.t c.loop-k.k p.indexed p.t_value (omega (arith, c.loop-k-test.true, p.end_le_slots)) in
    omega arith

pub loop-k-preserved : goal.loop-k-preserved
loop-k-preserved c =
    let a = c.args in
    let p = c.requires in
    let f = facts_in a.s.now a.ws.now in
    let k = c.loop-k.k in
    let r = slot-known a.s.now a.ws.now a.t k p.indexed p.t_value (omega (arith, c.loop-k-test.true, p.end_le_slots)) in
    ap (λ (u : Flow). flow_in f u (from (k + 1) a.r.end))
    (c.with-f.ensures
    ∙ ap (λ (x : Cell). join_flow c.loop-k.f x.flow) (c.load-c.ensures ∙ ap (cell_at a.ws.now) (c.slot_at.ensures ∙ r.at))
    ∙ ap (join_flow c.loop-k.f) (sym (flow-here a.s.now a.ws.now k r.there)))
    ∙ sym (flow-turn (module_of a.s.now) k a.r.end c.loop-k-test.true f c.loop-k.f) ∙ c.loop-k.invariant

pub returns : goal.returns
returns c =
    let a = c.args in
    sym (flow-end (module_of a.s.now) c.loop-k.k a.r.end (omega (arith, c.loop-k-test.false)) (facts_in a.s.now a.ws.now) c.loop-k.f)
    ∙ c.loop-k.invariant
