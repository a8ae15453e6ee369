-- `report_write::records::put_record` meets its contract.
use native.Mathlib.Omega.{arith}
use Rattle.le.proofs.Laws.{and_then, same_length as same-long}
use Rattle.report_cells.proofs.Laws.{said}
use Rattle.report_size.proofs.Here.{low-here, numbers-here, entry_here, asking-here, few-here}
use Rattle.report_write.proofs.records.Writes.{exact}
use Rattle.report_write.proofs.records.Values.{here-as, small-here, record-made, record-room}
use Rattle.report_write.proofs.records.put_record.Goals as goal

pub visit_at-v-requires : goal.visit_at-v-requires
visit_at-v-requires c =
    let a = c.args in
    let f = c.requires.finished in
    let h = here-as a.s.now a.ws.now a.c c.chunk_at-ch.result a.i c.requires.here c.chunk_at-ch.ensures in
    record { indexed = f.ended.prepared.indexed; c_in_bounds = h.chunk; ch_value = h.numbers; at_lt_count = h.at; nonzero = c.requires.nonzero; at_bound = low-here a.s.now a.ws.now a.t f a.c c.chunk_at-ch.result a.i h }

pub want_at-want-requires : goal.want_at-want-requires
want_at-want-requires c =
    let a = c.args in
    let f = c.requires.finished in
    let h = here-as a.s.now a.ws.now a.c c.chunk_at-ch.result a.i c.requires.here c.chunk_at-ch.ensures in
    record { looking = c.visit_at-v.ensures.0; ch_value = numbers-here a.s.now a.ws.now a.t f a.c c.chunk_at-ch.result a.i h c.visit_at-v.result c.visit_at-v.ensures; value = entry_here a.s.now a.ws.now a.t f a.c c.chunk_at-ch.result a.i h c.visit_at-v.result c.visit_at-v.ensures }

pub count_guards-guards-requires : goal.count_guards-guards-requires
count_guards-guards-requires c =
    let a = c.args in
    let f = c.requires.finished in
    let h = here-as a.s.now a.ws.now a.c c.chunk_at-ch.result a.i c.requires.here c.chunk_at-ch.ensures in
    record { asking = asking-here a.s.now a.ws.now a.t f a.c c.chunk_at-ch.result a.i h c.visit_at-v.result c.visit_at-v.ensures c.want_at-want.result c.want_at-want.ensures; t_value = f.tables }

pub record_len-requires : goal.record_len-requires
record_len-requires c =
    let a = c.args in
    let f = c.requires.finished in
    let h = here-as a.s.now a.ws.now a.c c.chunk_at-ch.result a.i c.requires.here c.chunk_at-ch.ensures in
    let z = few-here a.s.now a.ws.now a.t f a.c c.chunk_at-ch.result a.i h c.visit_at-v.result c.visit_at-v.ensures in (z.0, z.1, z.2, c.count_guards-guards.ensures.1)

pub put_head-at-requires : goal.put_head-at-requires
put_head-at-requires c =
    let a = c.args in
    let f = c.requires.finished in
    let h = here-as a.s.now a.ws.now a.c c.chunk_at-ch.result a.i c.requires.here c.chunk_at-ch.ensures in
    let l = record-room a.s.now a.ws.now a.t f a.c c.chunk_at-ch.result a.i h c.visit_at-v.result c.visit_at-v.ensures in
    let z = few-here a.s.now a.ws.now a.t f a.c c.chunk_at-ch.result a.i h c.visit_at-v.result c.visit_at-v.ensures in
    record { at_in_bounds = omega (arith, l, c.requires.i_in_bounds); len_bound = omega (arith, z, c.record_len.ensures, c.count_guards-guards.ensures.1) }

pub put_place-at-requires : goal.put_place-at-requires
put_place-at-requires c =
    let a = c.args in
    let f = c.requires.finished in
    let h = here-as a.s.now a.ws.now a.c c.chunk_at-ch.result a.i c.requires.here c.chunk_at-ch.ensures in
    let l = record-room a.s.now a.ws.now a.t f a.c c.chunk_at-ch.result a.i h c.visit_at-v.result c.visit_at-v.ensures in
    let w = c.put_head-at.ensures in
    record { c_bound = small-here a.s.now a.ws.now a.c c.chunk_at-ch.result a.i f.ended.prepared.indexed h; at_in_bounds = omega (arith, l, c.requires.i_in_bounds, w.next, same-long w) }

pub put_counts-at-requires : goal.put_counts-at-requires
put_counts-at-requires c =
    let a = c.args in
    let f = c.requires.finished in
    let h = here-as a.s.now a.ws.now a.c c.chunk_at-ch.result a.i c.requires.here c.chunk_at-ch.ensures in
    let l = record-room a.s.now a.ws.now a.t f a.c c.chunk_at-ch.result a.i h c.visit_at-v.result c.visit_at-v.ensures in
    let z = few-here a.s.now a.ws.now a.t f a.c c.chunk_at-ch.result a.i h c.visit_at-v.result c.visit_at-v.ensures in
    let w = c.put_head-at.ensures in
    let u = c.put_place-at.ensures in record { height_bound = (omega (arith, z.0), omega (arith, z.1), omega (arith, c.count_guards-guards.ensures.1)); at_in_bounds = omega (arith, l, c.requires.i_in_bounds, w.next, same-long w, u.next, same-long u) }

pub put_values-requires : goal.put_values-requires
put_values-requires c =
    let a = c.args in
    let f = c.requires.finished in
    let h = here-as a.s.now a.ws.now a.c c.chunk_at-ch.result a.i c.requires.here c.chunk_at-ch.ensures in
    let l = record-room a.s.now a.ws.now a.t f a.c c.chunk_at-ch.result a.i h c.visit_at-v.result c.visit_at-v.ensures in
    let w = c.put_head-at.ensures in
    let u = c.put_place-at.ensures in
    let o = c.put_counts-at.ensures in record { asking = asking-here a.s.now a.ws.now a.t f a.c c.chunk_at-ch.result a.i h c.visit_at-v.result c.visit_at-v.ensures c.want_at-want.result c.want_at-want.ensures; t_value = f.tables; ch_value = numbers-here a.s.now a.ws.now a.t f a.c c.chunk_at-ch.result a.i h c.visit_at-v.result c.visit_at-v.ensures; v_in_bounds = omega (arith, l, c.requires.i_in_bounds, w.next, same-long w, u.next, same-long u, o.next, same-long o) }

pub returns : goal.returns
returns c =
    let a = c.args in
    let f = c.requires.finished in
    let h = here-as a.s.now a.ws.now a.c c.chunk_at-ch.result a.i c.requires.here c.chunk_at-ch.ensures in
    exact
    (said (and_then c.put_head-at.ensures (and_then c.put_place-at.ensures (and_then c.put_counts-at.ensures c.put_values.ensures)))
    (record-made a.s.now a.ws.now a.t f a.c c.chunk_at-ch.result a.i h c.visit_at-v.result c.visit_at-v.ensures c.record_len.result c.count_guards-guards.result c.count_guards-guards.ensures.0 c.record_len.ensures))
