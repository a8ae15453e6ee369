-- `report_write::put_chunk` meets its contract. Invariant: what the instructions before i add is written.
use native.Mathlib.Omega.{arith}
use mathlib.Core.Path.{◌≡◌, ap}
use Rattle.report_size.specs.Span.{span}
use Rattle.report_size.specs.Adds.{added_for, recordable, chunk_for}
use Rattle.report_size.proofs.Here.{count-recordable, counted-here}
use Rattle.report_write.proofs.records.Writes.{said-exact, span-start, span_fits, span-turn}
use Rattle.report_write.proofs.records.Values.{here_back}
use Rattle.report_write.proofs.put_chunk.Goals as goal

pub chunk_at-ch-requires : goal.chunk_at-ch-requires
chunk_at-ch-requires c = record { indexed = c.requires.finished.ended.prepared.indexed; c_in_bounds = c.requires.c_in_bounds }

pub loop-i-init : goal.loop-i-init
loop-i-init c =
    let a = c.args in
    span-start (added_for a.s.now a.ws.now a.tag a.c) 0 _ a.at

pub put_instr-to-requires : goal.put_instr-to-requires
unfolding chunk_for
put_instr-to-requires c =
    let a = c.args in
    let i = c.loop-i.invariant in
    let h = counted-here a.s.now a.ws.now a.c c.chunk_at-ch.result c.chunk_at-ch.ensures c.recorded_count-n.result c.recorded_count-n.ensures c.requires.c_in_bounds c.loop-i.i c.loop-i-test.true in record { finished = c.requires.finished; here = here_back a.s.now a.ws.now a.c c.chunk_at-ch.result c.loop-i.i h; i_in_bounds = span_fits (added_for a.s.now a.ws.now a.tag a.c) 0 _ a.at c.loop-i.i (omega arith) _ _ i (recordable a.s.now a.c) (omega (arith, c.loop-i-test.true, count-recordable a.s.now a.ws.now a.c c.chunk_at-ch.result c.chunk_at-ch.ensures c.recorded_count-n.result c.recorded_count-n.ensures)) c.requires.c_in_bounds_2 }

pub loop-i-preserved : goal.loop-i-preserved
loop-i-preserved c =
    let a = c.args in
    let i = c.loop-i.invariant in
    span-turn (added_for a.s.now a.ws.now a.tag a.c) 0 _ a.at c.loop-i.i (omega arith) _ _ i _ _ c.put_instr-to.ensures

pub returns : goal.returns
unfolding chunk_for
returns c =
    let a = c.args in
    let i = c.loop-i.invariant in
    let e : c.loop-i.i ≡ recordable a.s.now a.c = omega (arith, c.loop-i.auto.i-end, c.loop-i-test.false, count-recordable a.s.now a.ws.now a.c c.chunk_at-ch.result c.chunk_at-ch.ensures c.recorded_count-n.result c.recorded_count-n.ensures) in
    said-exact i (ap (span (added_for a.s.now a.ws.now a.tag a.c) 0) e)
