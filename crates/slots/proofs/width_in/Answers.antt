-- `slots::width_in` meets its contract. Invariant: the slots from k on, beside what is gathered, give the whole.
use Prim.Native.Nat.{◌+◌}
use native.Mathlib.Omega.{arith}
use mathlib.Core.Path.{sym, ap, ◌∙◌}
use Rattle.widths.specs.declared.Width.{Width}
use Rattle.widths.specs.Width.{join_width}
use Rattle.definition.specs.Module.{module_of}
use Rattle.definition.specs.Data.{width_in}
use Rattle.visit.specs.Held.{facts_in}
use Rattle.visit.specs.Slots.{list_of}
use Rattle.slots.proofs.Walk.{from, from_first, width-turn, width-end}
use Rattle.slots.proofs.width_in.Goals as goal

pub loop-k-init : goal.loop-k-init
loop-k-init c =
    let a = c.args in
    let m = module_of a.s.now in
    let f = facts_in a.s.now a.ws.now in
    ap (width_in m f c.slot_width-w.result) (from_first a.r) ∙ ap (λ (w : Width). width_in m f w (list_of a.r)) c.slot_width-w.ensures

pub slot_width-requires : goal.slot_width-requires
slot_width-requires c = record { indexed = c.requires.indexed; t_value = c.requires.t_value; n_le_slots = omega (arith, c.loop-k-test.true, c.requires.first_le_end) }

pub loop-k-preserved : goal.loop-k-preserved
loop-k-preserved c =
    let a = c.args in
    let m = module_of a.s.now in
    let f = facts_in a.s.now a.ws.now in
    let k = c.loop-k.k in
    ap (λ (u : Width). width_in m f u (from (k + 1) a.r.end))
    (c.join-w.ensures ∙ ap (join_width c.loop-k.w) c.slot_width.ensures)
    ∙ sym (width-turn m k a.r.end c.loop-k-test.true f c.loop-k.w) ∙ c.loop-k.invariant

pub returns : goal.returns
returns c =
    let a = c.args in
    sym (width-end (module_of a.s.now) c.loop-k.k a.r.end (omega (arith, c.loop-k-test.false)) (facts_in a.s.now a.ws.now) c.loop-k.w)
    ∙ c.loop-k.invariant
