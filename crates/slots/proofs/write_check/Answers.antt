-- `slots::write_check` meets its contract. Invariant: the slots from k on, beside what is gathered, give the whole.
use Prim.Native.Nat.{◌+◌}
use native.Mathlib.Omega.{arith}
use mathlib.Core.Path.{sym, ap, ◌∙◌}
use Rattle.definition.specs.declared.Check.{Check}
use Rattle.definition.specs.declared.Check.TheVariants.{Fine}
use Rattle.definition.specs.Module.{module_of}
use Rattle.definition.specs.Wants.{require, meet, write_check}
use Rattle.visit.specs.Held.{facts_in}
use Rattle.slots.proofs.Walk.{from, from_first, write-turn, write-end}
use Rattle.slots.proofs.write_check.Goals as goal

pub loop-k-init : goal.loop-k-init
loop-k-init c =
    let a = c.args in
    ap (write_check (module_of a.s.now) (facts_in a.s.now a.ws.now) a.value Fine) (from_first a.r)

pub loop-k-preserved : goal.loop-k-preserved
loop-k-preserved c =
    let a = c.args in
    let m = module_of a.s.now in
    let f = facts_in a.s.now a.ws.now in
    let k = c.loop-k.k in
    ap (λ (u : Check). write_check m f a.value u (from (k + 1) a.r.end))
    (c.meet-c.ensures ∙ ap (meet c.loop-k.c) (c.require.ensures ∙ ap (require a.value) c.slot_allows.ensures))
    ∙ sym (write-turn m k a.r.end c.loop-k-test.true f a.value c.loop-k.c) ∙ c.loop-k.invariant

pub returns : goal.returns
returns c =
    let a = c.args in
    sym (write-end (module_of a.s.now) c.loop-k.k a.r.end (omega (arith, c.loop-k-test.false)) (facts_in a.s.now a.ws.now) a.value c.loop-k.c)
    ∙ c.loop-k.invariant
