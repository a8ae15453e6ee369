-- `report_size::chunk_bytes` meets its contract. Invariant: n is the length of what the instructions before i add.
use Prim.Native.Nat.{ℕ}
use native.Mathlib.Omega.{arith}
use mathlib.Core.Path.{◌≡◌, sym, ap, ◌∙◌}
use lib.ListN.{length}
use Rattle.report_size.specs.Span.{span}
use Rattle.report_size.proofs.Span.{span_none, long-more}
use Rattle.report_size.specs.Adds.{recordable}
use Rattle.report_size.proofs.Here.{count-recordable, counted-here, coded-recordable, few-recordable}
use Rattle.report_size.specs.Measured.{all_for, all_in}
use Rattle.report_size.proofs.chunk_bytes.Goals as goal

pub chunk_at-ch-requires : goal.chunk_at-ch-requires
chunk_at-ch-requires c = record { indexed = c.requires.finished.ended.prepared.indexed; c_in_bounds = c.requires.c_in_bounds }

pub loop-i-init : goal.loop-i-init
loop-i-init c =
    let a = c.args in
    (sym (ap length (span_none (all_for a.s.now a.ws.now a.c) 0)), omega arith)

pub instr_bytes-n-requires : goal.instr_bytes-n-requires
instr_bytes-n-requires c =
    let a = c.args in
    record { finished = c.requires.finished; here = counted-here a.s.now a.ws.now a.c c.chunk_at-ch.result c.chunk_at-ch.ensures c.recorded_count-count.result c.recorded_count-count.ensures c.requires.c_in_bounds c.loop-i.i c.loop-i-test.true }

pub overflow_add-n : goal.overflow_add-n
overflow_add-n c =
    let a = c.args in
    let e = count-recordable a.s.now a.ws.now a.c c.chunk_at-ch.result c.chunk_at-ch.ensures c.recorded_count-count.result c.recorded_count-count.ensures in
    omega (arith, e, few-recordable a.s.now a.ws.now c.requires.finished.ended.prepared.indexed a.c c.requires.c_in_bounds, c.loop-i.invariant.1, c.instr_bytes-n.ensures.1, c.loop-i-test.true)

pub loop-i-preserved : goal.loop-i-preserved
loop-i-preserved c =
    let a = c.args in
    let i = c.loop-i.invariant in
    let m = long-more (all_for a.s.now a.ws.now a.c) 0 c.loop-i.i (omega arith) in
    (omega (arith, i.0, m, c.instr_bytes-n.ensures.0), omega (arith, i.1, c.instr_bytes-n.ensures.1))

pub returns : goal.returns
unfolding all_in
returns c =
    let a = c.args in
    let i = c.loop-i.invariant in
    let e : c.loop-i.i ≡ recordable a.s.now a.c = omega (arith, c.loop-i.auto.i-end, c.loop-i-test.false, count-recordable a.s.now a.ws.now a.c c.chunk_at-ch.result c.chunk_at-ch.ensures c.recorded_count-count.result c.recorded_count-count.ensures) in
    (i.0 ∙ ap (λ (k : ℕ). length (span (all_for a.s.now a.ws.now a.c) 0 k)) e, omega (arith, e, i.1, coded-recordable a.s.now a.c))
