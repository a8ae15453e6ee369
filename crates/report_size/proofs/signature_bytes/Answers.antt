-- `report_size::signature_bytes` meets its contract: a chunk with a signature, or one without.
use native.Mathlib.Omega.{arith}
use mathlib.Core.Path.{sym, ap}
use lib.ListN.{length}
use Rattle.layout.proofs.Read.{params_is}
use Rattle.report_size.proofs.Span.{cut_in, cut_out}
use Rattle.report_size.specs.Adds.{signature_at}
use Rattle.report_size.proofs.Long.{signature-long}
use Rattle.report_size.proofs.signature_bytes.Goals as goal

pub overflow_add-result : goal.overflow_add-result
overflow_add-result c =
    let a = c.args in
    let p = params_is a.s.now a.ws.now a.c c.chunk_at-ch.result c.chunk_at-ch.ensures in
    let g = c.requires.indexed.good.each_chunk a.c c.requires.c_in_bounds in
    omega (arith, p, g.params)

pub overflow_mul-result : goal.overflow_mul-result
overflow_mul-result c =
    let a = c.args in
    let p = params_is a.s.now a.ws.now a.c c.chunk_at-ch.result c.chunk_at-ch.ensures in
    let g = c.requires.indexed.good.each_chunk a.c c.requires.c_in_bounds in
    omega (arith, p, g.params)

pub overflow_add-result-then-c-t : goal.overflow_add-result-then-c-t
overflow_add-result-then-c-t c =
    let a = c.args in
    let p = params_is a.s.now a.ws.now a.c c.chunk_at-ch.result c.chunk_at-ch.ensures in
    let g = c.requires.indexed.good.each_chunk a.c c.requires.c_in_bounds in
    omega (arith, p, g.params)

pub returns-then-c-t : goal.returns-then-c-t
returns-then-c-t c =
    let a = c.args in
    let p = params_is a.s.now a.ws.now a.c c.chunk_at-ch.result c.chunk_at-ch.ensures in
    let g = c.requires.indexed.good.each_chunk a.c c.requires.c_in_bounds in (
      omega (
        arith,
        p,
        signature-long a.s.now a.ws.now a.c,
        ap length (cut_in (signature_at a.s.now a.ws.now) a.t.signatures a.c c.if-c-t.true),
      ),
      omega (arith, p, g.params),
    )

pub returns-else-c-t : goal.returns-else-c-t
returns-else-c-t c =
    let a = c.args in
    (sym (ap length (cut_out (signature_at a.s.now a.ws.now) a.t.signatures a.c (omega (arith, c.if-c-t.false)))), omega arith)
