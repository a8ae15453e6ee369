-- `fact_join::merging::merge_writes` meets its contract. The loop's invariant: the slots below k are merged, and those from k on say with `moved` whether the facts moved.
use mathlib.Core.Path.{◌≡◌, ◌∙◌}
use native.Mathlib.Omega.{arith}
use Rattle.definition.specs.Module.{module_of}
use Rattle.fact_join.proofs.merging.Merge.{merging-none, merging-more, merging-answer, merging-facts}
use Rattle.layout.proofs.Read.{slots-are, slot-known}
use Rattle.fact_join.proofs.merging.merge_writes.Goals as goal

pub loop-k-init : goal.loop-k-init
loop-k-init c = merging-none c.args.s.now c.args.ws.now c.args.changed

pub slot_at-requires : goal.slot_at-requires
slot_at-requires c =
    let a = c.args in
    let r = slot-known a.s.now a.ws.now a.t c.loop-k.k c.requires.indexed c.requires.t_value c.loop-k-test.true in
    omega arith

pub merge_slot-moved-requires : goal.merge_slot-moved-requires
merge_slot-moved-requires c =
    let a = c.args in
    let r = slot-known a.s.now a.ws.now a.t c.loop-k.k c.requires.indexed c.requires.t_value c.loop-k-test.true in
    omega (arith, c.loop-k.auto.ws)

pub loop-k-preserved : goal.loop-k-preserved
loop-k-preserved c =
    let a = c.args in
    let l = c.loop-k in
    let r = slot-known a.s.now a.ws.now a.t l.k c.requires.indexed c.requires.t_value c.loop-k-test.true in
    merging-more a.s.now a.ws.now l.ws _ l.k a.changed l.moved _ r.there l.invariant
    (rw (c.slot_at.ensures ∙ r.at) at c.merge_slot-moved.ensures)

pub returns : goal.returns
returns c =
    let a = c.args in
    let l = c.loop-k in
    let e : l.k ≡ (module_of a.s.now).slots = omega (arith, slots-are a.s.now a.t c.requires.t_value) in
    let m = rw e at l.invariant in
    (m.frame, merging-answer a.s.now a.ws.now l.ws a.changed l.moved m, merging-facts a.s.now a.ws.now l.ws a.changed l.moved m)
