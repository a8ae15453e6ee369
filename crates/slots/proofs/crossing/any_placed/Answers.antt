-- `slots::crossing::any_placed` meets its contract. Invariant: the slots from k on have a placed one exactly where all have.
use Prim.Native.Nat.{◌+◌}
use native.Mathlib.Omega.{arith}
use mathlib.Core.Path.{sym, ap, ◌∙◌}
use mathlib.Core.Bool.{Bool, ◌||◌}
use Rattle.definition.specs.Module.{module_of}
use Rattle.definition.specs.Data.{any_body}
use Rattle.slots.proofs.Walk.{from, from_first, any-turn, any-end}
use Rattle.slots.proofs.crossing.any_placed.Goals as goal

pub loop-k-init : goal.loop-k-init
loop-k-init c = ap (any_body (module_of c.args.s.now)) (from_first c.args.r)

pub returns-then-slot_placed : goal.returns-then-slot_placed
returns-then-slot_placed c =
    let a = c.args in
    let m = module_of a.s.now in
    let k = c.loop-k.k in
    sym (ap (λ (b : Bool). b || any_body m (from (k + 1) a.r.end)) (sym c.slot_placed.ensures ∙ c.if-slot_placed.true))
    ∙ sym (any-turn m k a.r.end c.loop-k-test.true) ∙ c.loop-k.invariant

pub loop-k-preserved : goal.loop-k-preserved
loop-k-preserved c =
    let a = c.args in
    let m = module_of a.s.now in
    let k = c.loop-k.k in
    sym (ap (λ (b : Bool). b || any_body m (from (k + 1) a.r.end)) (sym c.slot_placed.ensures ∙ c.if-slot_placed.false))
    ∙ sym (any-turn m k a.r.end c.loop-k-test.true) ∙ c.loop-k.invariant

pub returns : goal.returns
returns c =
    let a = c.args in
    sym (any-end (module_of a.s.now) c.loop-k.k a.r.end (omega (arith, c.loop-k-test.false))) ∙ c.loop-k.invariant
