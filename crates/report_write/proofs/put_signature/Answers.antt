-- `report_write::put_signature` meets its contract.
use native.Mathlib.Omega.{arith}
use mathlib.Core.Path.{◌≡◌, refl}
use Rattle.le.proofs.Laws.{and_then, same_length as same-long}
use Rattle.report_cells.proofs.Laws.{said}
use Rattle.layout.specs.Layout.{input_at}
use Rattle.layout.proofs.Read.{params_is}
use Rattle.definition.specs.Module.{module_of}
use Rattle.report_size.proofs.Long.{signature-long}
use Rattle.report_write.proofs.records.Writes.{exact, low16}
use Rattle.report_write.proofs.records.Values.{input-room, signature-parts}
use Rattle.report_write.proofs.put_signature.Goals as goal

pub overflow_add-ch : goal.overflow_add-ch
overflow_add-ch c =
    let a = c.args in
    let q = params_is a.s.now a.ws.now a.c c.chunk_at-ch.result c.chunk_at-ch.ensures in
    let g = (c.requires.indexed.good.each_chunk a.c c.requires.c_in_bounds).params in
    let l = signature-long a.s.now a.ws.now a.c in
    let w = input-room a.s.now a.ws.now a.c c.chunk_at-ch.result c.requires.indexed c.requires.c_in_bounds c.chunk_at-ch.ensures in
    omega (arith, q, g)

pub overflow_mul-ch : goal.overflow_mul-ch
overflow_mul-ch c =
    let a = c.args in
    let q = params_is a.s.now a.ws.now a.c c.chunk_at-ch.result c.chunk_at-ch.ensures in
    let g = (c.requires.indexed.good.each_chunk a.c c.requires.c_in_bounds).params in
    let l = signature-long a.s.now a.ws.now a.c in
    let w = input-room a.s.now a.ws.now a.c c.chunk_at-ch.result c.requires.indexed c.requires.c_in_bounds c.chunk_at-ch.ensures in
    omega (arith, q, g)

pub overflow_add-ch-2 : goal.overflow_add-ch-2
overflow_add-ch-2 c =
    let a = c.args in
    let q = params_is a.s.now a.ws.now a.c c.chunk_at-ch.result c.chunk_at-ch.ensures in
    let g = (c.requires.indexed.good.each_chunk a.c c.requires.c_in_bounds).params in
    let l = signature-long a.s.now a.ws.now a.c in
    let w = input-room a.s.now a.ws.now a.c c.chunk_at-ch.result c.requires.indexed c.requires.c_in_bounds c.chunk_at-ch.ensures in
    omega (arith, q, g)

pub put_head-at-requires : goal.put_head-at-requires
put_head-at-requires c =
    let a = c.args in
    let q = params_is a.s.now a.ws.now a.c c.chunk_at-ch.result c.chunk_at-ch.ensures in
    let g = (c.requires.indexed.good.each_chunk a.c c.requires.c_in_bounds).params in
    let l = signature-long a.s.now a.ws.now a.c in
    let w = input-room a.s.now a.ws.now a.c c.chunk_at-ch.result c.requires.indexed c.requires.c_in_bounds c.chunk_at-ch.ensures in
    record { at_in_bounds = omega (arith, q, l, c.requires.c_in_bounds_2); len_bound = omega (arith, q, g) }

pub put16-at-requires : goal.put16-at-requires
put16-at-requires c =
    let a = c.args in
    let q = params_is a.s.now a.ws.now a.c c.chunk_at-ch.result c.chunk_at-ch.ensures in
    let g = (c.requires.indexed.good.each_chunk a.c c.requires.c_in_bounds).params in
    let l = signature-long a.s.now a.ws.now a.c in
    let w = input-room a.s.now a.ws.now a.c c.chunk_at-ch.result c.requires.indexed c.requires.c_in_bounds c.chunk_at-ch.ensures in
    let h = c.put_head-at.ensures in omega (arith, q, l, c.requires.c_in_bounds_2, h.next, same-long h)

pub input_at-requires : goal.input_at-requires
input_at-requires c =
    let a = c.args in
    let q = params_is a.s.now a.ws.now a.c c.chunk_at-ch.result c.chunk_at-ch.ensures in
    let g = (c.requires.indexed.good.each_chunk a.c c.requires.c_in_bounds).params in
    let l = signature-long a.s.now a.ws.now a.c in
    let w = input-room a.s.now a.ws.now a.c c.chunk_at-ch.result c.requires.indexed c.requires.c_in_bounds c.chunk_at-ch.ensures in
    omega (arith, w.1)

pub overflow_add-ch-3 : goal.overflow_add-ch-3
overflow_add-ch-3 c =
    let a = c.args in
    let q = params_is a.s.now a.ws.now a.c c.chunk_at-ch.result c.chunk_at-ch.ensures in
    let g = (c.requires.indexed.good.each_chunk a.c c.requires.c_in_bounds).params in
    let l = signature-long a.s.now a.ws.now a.c in
    let w = input-room a.s.now a.ws.now a.c c.chunk_at-ch.result c.requires.indexed c.requires.c_in_bounds c.chunk_at-ch.ensures in
    omega (arith, q, g)

pub put_cells-requires : goal.put_cells-requires
put_cells-requires c =
    let a = c.args in
    let q = params_is a.s.now a.ws.now a.c c.chunk_at-ch.result c.chunk_at-ch.ensures in
    let g = (c.requires.indexed.good.each_chunk a.c c.requires.c_in_bounds).params in
    let l = signature-long a.s.now a.ws.now a.c in
    let w = input-room a.s.now a.ws.now a.c c.chunk_at-ch.result c.requires.indexed c.requires.c_in_bounds c.chunk_at-ch.ensures in
    let h = c.put_head-at.ensures in
    let u = c.put16-at.ensures in
    record { n_in_bounds = omega (arith, w.0, c.input_at.ensures); n_in_bounds_2 = omega (arith, q, l, c.requires.c_in_bounds_2, h.next, same-long h, u.next, same-long u) }

pub returns : goal.returns
returns c =
    let a = c.args in
    let q = params_is a.s.now a.ws.now a.c c.chunk_at-ch.result c.chunk_at-ch.ensures in
    let g = (c.requires.indexed.good.each_chunk a.c c.requires.c_in_bounds).params in
    let l = signature-long a.s.now a.ws.now a.c in
    let w = input-room a.s.now a.ws.now a.c c.chunk_at-ch.result c.requires.indexed c.requires.c_in_bounds c.chunk_at-ch.ensures in
    let e : c.input_at.result ≡ input_at (module_of a.s.now) a.c 0 = omega (arith, w.2, c.input_at.ensures) in
    exact
    (said (and_then c.put_head-at.ensures (and_then (said c.put16-at.ensures (low16 a.c (omega (arith, c.requires.indexed.good.chunks_most, c.requires.c_in_bounds)))) c.put_cells.ensures))
    (signature-parts a.s.now a.ws.now a.c _ c.chunk_at-ch.result.params c.input_at.result q refl e))
