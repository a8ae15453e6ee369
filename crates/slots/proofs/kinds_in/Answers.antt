-- `slots::kinds_in` meets its contract. Invariant: the slots from k on, beside what is gathered, give the whole.
use Prim.Native.Nat.{◌+◌}
use native.Mathlib.Omega.{arith}
use mathlib.Core.Path.{sym, ap, ◌∙◌}
use Rattle.masks.specs.declared.Mask.{Mask}
use Rattle.masks.specs.Mask.{union}
use Rattle.masks.specs.Names.{NONE}
use Rattle.definition.specs.Module.{module_of}
use Rattle.definition.specs.Data.{kinds_in}
use Rattle.visit.specs.Held.{facts_in}
use Rattle.slots.proofs.Walk.{from, from_first, kinds-turn, kinds-end}
use Rattle.slots.proofs.kinds_in.Goals as goal

pub loop-k-init : goal.loop-k-init
loop-k-init c =
    let a = c.args in
    ap (kinds_in (module_of a.s.now) (facts_in a.s.now a.ws.now) NONE) (from_first a.r)

pub loop-k-preserved : goal.loop-k-preserved
loop-k-preserved c =
    let a = c.args in
    let m = module_of a.s.now in
    let f = facts_in a.s.now a.ws.now in
    let k = c.loop-k.k in
    ap (λ (u : Mask). kinds_in m f u (from (k + 1) a.r.end))
    (c.union-m.ensures ∙ ap (union c.loop-k.m) c.slot_mask.ensures)
    ∙ sym (kinds-turn m k a.r.end c.loop-k-test.true f c.loop-k.m) ∙ c.loop-k.invariant

pub returns : goal.returns
returns c =
    let a = c.args in
    sym (kinds-end (module_of a.s.now) c.loop-k.k a.r.end (omega (arith, c.loop-k-test.false)) (facts_in a.s.now a.ws.now) c.loop-k.m)
    ∙ c.loop-k.invariant
