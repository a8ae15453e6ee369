-- `report_write::put_slots` meets its contract. Invariant: the slots before k are written.
use mathlib.Core.Path.{◌≡◌, ap}
use native.Mathlib.Omega.{arith}
use Rattle.report_size.specs.Span.{span}
use Rattle.report_write.specs.records.Writes.{slot_from}
use Rattle.report_write.proofs.records.Writes.{exact, span-start, span_fits, span-turn, slot-long, said-exact}
use Rattle.report_write.proofs.put_slots.Goals as goal

pub loop-k-init : goal.loop-k-init
loop-k-init c =
    let a = c.args in
    span-start (slot_from a.ws.now a.t.chunks) 0 _ a.at

pub put_slot-to-requires : goal.put_slot-to-requires
put_slot-to-requires c =
    let a = c.args in
    let i = c.loop-k.invariant in
    let k = c.loop-k.k in
    let f = span_fits (slot_from a.ws.now a.t.chunks) 0 _ a.at k (omega arith) _ _ i a.t.slots c.loop-k-test.true c.requires.slots_in_bounds_2 in
    record { slot_in_bounds = omega (arith, c.requires.slots_in_bounds, c.loop-k-test.true); slot_bound = omega (arith, c.requires.slots_bound, c.loop-k-test.true); at_in_bounds = omega (arith, f, slot-long a.ws.now a.t.chunks k) }

pub loop-k-preserved : goal.loop-k-preserved
loop-k-preserved c =
    let a = c.args in
    let i = c.loop-k.invariant in
    span-turn (slot_from a.ws.now a.t.chunks) 0 _ a.at c.loop-k.k (omega arith) _ _ i _ _ (exact c.put_slot-to.ensures)

pub returns : goal.returns
returns c =
    let a = c.args in
    let i = c.loop-k.invariant in
    let e : c.loop-k.k ≡ a.t.slots = omega (arith, c.loop-k.auto.k-end, c.loop-k-test.false) in
    said-exact i (ap (span (slot_from a.ws.now a.t.chunks) 0) e)
