-- `report_size::counting::chunk_records` meets its contract. Invariant: n is the number of the records before i.
use Prim.Native.Nat.{ℕ}
use native.Mathlib.Omega.{arith}
use mathlib.Core.Path.{◌≡◌, sym, ap, ◌∙◌}
use lib.ListN.{length}
use Rattle.report_size.specs.Span.{span}
use Rattle.report_size.proofs.Span.{span_none, long-more}
use Rattle.report_size.specs.Adds.{recordable}
use Rattle.report_size.specs.counting.Marks.{mark_for, marks_in}
use Rattle.report_size.proofs.Here.{count-recordable, few-recordable}
use Rattle.report_size.proofs.counting.Laws.{row_inside, mark-counted}
use Rattle.report_size.proofs.counting.chunk_records.Goals as goal

pub chunk_at-ch-requires : goal.chunk_at-ch-requires
chunk_at-ch-requires c = c.requires

pub loop-i-init : goal.loop-i-init
loop-i-init c =
    let a = c.args in
    (sym (ap length (span_none (mark_for a.s.now a.ws.now a.c) 0)), omega arith)

pub row_at-requires : goal.row_at-requires
row_at-requires c =
    let a = c.args in
    (row_inside a.s.now a.ws.now c.requires.indexed a.c c.requires.c_in_bounds c.chunk_at-ch.result c.chunk_at-ch.ensures c.recorded_count-count.result c.recorded_count-count.ensures c.loop-i.i c.loop-i-test.true).0

pub row_records-n-requires : goal.row_records-n-requires
row_records-n-requires c =
    let a = c.args in
    let l = (row_inside a.s.now a.ws.now c.requires.indexed a.c c.requires.c_in_bounds c.chunk_at-ch.result c.chunk_at-ch.ensures c.recorded_count-count.result c.recorded_count-count.ensures c.loop-i.i c.loop-i-test.true).1 in
    omega (arith, l, c.row_at.ensures)

pub overflow_add-n : goal.overflow_add-n
overflow_add-n c =
    let a = c.args in
    let e = count-recordable a.s.now a.ws.now a.c c.chunk_at-ch.result c.chunk_at-ch.ensures c.recorded_count-count.result c.recorded_count-count.ensures in
    omega (arith, e, few-recordable a.s.now a.ws.now c.requires.indexed a.c c.requires.c_in_bounds, c.loop-i.invariant.1, c.row_records-n.ensures.1, c.loop-i-test.true)

pub loop-i-preserved : goal.loop-i-preserved
loop-i-preserved c =
    let a = c.args in
    let i = c.loop-i.invariant in
    let k = c.loop-i.i in
    let m = mark-counted a.s.now a.ws.now c.requires.indexed a.c c.requires.c_in_bounds c.chunk_at-ch.result c.chunk_at-ch.ensures c.recorded_count-count.result c.recorded_count-count.ensures k c.loop-i-test.true c.row_records-n.result c.row_at.result c.row_at.ensures c.row_records-n.ensures.0 in
    let g = long-more (mark_for a.s.now a.ws.now a.c) 0 k (omega arith) in
    (omega (arith, i.0, g, m), omega (arith, i.1, c.row_records-n.ensures.1))

pub returns : goal.returns
unfolding marks_in
returns c =
    let a = c.args in
    let i = c.loop-i.invariant in
    let e : c.loop-i.i ≡ recordable a.s.now a.c = omega (arith, c.loop-i.auto.i-end, c.loop-i-test.false, count-recordable a.s.now a.ws.now a.c c.chunk_at-ch.result c.chunk_at-ch.ensures c.recorded_count-count.result c.recorded_count-count.ensures) in
    (i.0 ∙ ap (λ (k : ℕ). length (span (mark_for a.s.now a.ws.now a.c) 0 k)) e, omega (arith, e, i.1, few-recordable a.s.now a.ws.now c.requires.indexed a.c c.requires.c_in_bounds))
