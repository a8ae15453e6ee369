-- `report_write::put_chunks` meets its contract. Invariant: what the chunks before c add is written.
use Prim.Native.Nat.{◌<◌}
use native.Mathlib.Omega.{arith}
use mathlib.Core.Path.{◌≡◌, ap}
use lib.ListN.{length}
use Rattle.definition.specs.Module.{module_of}
use Rattle.layout.proofs.Read.{chunks-are}
use Rattle.report_size.specs.Span.{span}
use Rattle.report_size.specs.Adds.{chunk_for, chunks_for}
use Rattle.report_write.proofs.records.Writes.{said-exact, span-start, span_fits, span-turn}
use Rattle.report_write.proofs.put_chunks.Goals as goal

pub loop-c-init : goal.loop-c-init
loop-c-init c =
    let a = c.args in
    span-start (chunk_for a.s.now a.ws.now a.tag) 0 _ a.at

pub put_chunk-to-requires : goal.put_chunk-to-requires
unfolding chunks_for
put_chunk-to-requires c =
    let a = c.args in
    let i = c.loop-c.invariant in
    let l : c.loop-c.c < length (module_of a.s.now).chunks = omega (arith, c.loop-c-test.true, chunks-are a.s.now a.t c.requires.finished.tables) in
    record { finished = c.requires.finished; c_in_bounds = l; c_in_bounds_2 = span_fits (chunk_for a.s.now a.ws.now a.tag) 0 _ a.at c.loop-c.c (omega arith) _ _ i (length (module_of a.s.now).chunks) l c.requires.tag_in_bounds }

pub loop-c-preserved : goal.loop-c-preserved
loop-c-preserved c =
    let a = c.args in
    let i = c.loop-c.invariant in
    span-turn (chunk_for a.s.now a.ws.now a.tag) 0 _ a.at c.loop-c.c (omega arith) _ _ i _ _ c.put_chunk-to.ensures

pub returns : goal.returns
unfolding chunks_for
returns c =
    let a = c.args in
    let i = c.loop-c.invariant in
    let e : c.loop-c.c ≡ length (module_of a.s.now).chunks = omega (arith, c.loop-c.auto.c-end, c.loop-c-test.false, chunks-are a.s.now a.t c.requires.finished.tables) in
    said-exact i (ap (span (chunk_for a.s.now a.ws.now a.tag) 0) e)
