-- `report_write::write` meets its contract.
use mathlib.Core.Path.{◌∙◌}
use native.Mathlib.Omega.{arith}
use Rattle.le.proofs.Laws.{and_then, same_length as same-long}
use Rattle.report_cells.proofs.Laws.{said}
use Rattle.report_write.proofs.Whole.{report-parts, report-room, slots-room}
use Rattle.report_write.proofs.write.Goals as goal

pub put_head-at-requires : goal.put_head-at-requires
put_head-at-requires c =
    let a = c.args in
    let l = report-room a.s.now a.ws.now a.t c.requires.t_value a.reply in
    record { at_in_bounds = omega (arith, l, c.requires.reply_in_bounds); len_bound = omega arith }

pub put32-at-requires : goal.put32-at-requires
put32-at-requires c =
    let a = c.args in
    let l = report-room a.s.now a.ws.now a.t c.requires.t_value a.reply in
    let b = c.put_head-at.ensures in
    omega (arith, l, c.requires.reply_in_bounds, b.next, same-long b)

pub put_signatures-at-requires : goal.put_signatures-at-requires
put_signatures-at-requires c =
    let a = c.args in
    let l = report-room a.s.now a.ws.now a.t c.requires.t_value a.reply in
    let b = c.put_head-at.ensures in
    let d = c.put32-at.ensures in
    record { indexed = c.requires.ended.prepared.indexed; t_value = c.requires.t_value; signatures_in_bounds = omega (arith, l, c.requires.reply_in_bounds, b.next, same-long b, d.next, same-long d) }

pub put_slots-at-requires : goal.put_slots-at-requires
put_slots-at-requires c =
    let a = c.args in
    let l = report-room a.s.now a.ws.now a.t c.requires.t_value a.reply in
    let b = c.put_head-at.ensures in
    let d = c.put32-at.ensures in
    let e = c.put_signatures-at.ensures in
    let r = slots-room a.s.now a.ws.now a.t c.requires.t_value c.requires.ended.prepared.indexed in
    record { slots_in_bounds = r.0; slots_bound = omega (arith, r.1); slots_in_bounds_2 = omega (arith, l, c.requires.reply_in_bounds, b.next, same-long b, d.next, same-long d, e.next, same-long e) }

pub put_chunks-at-requires : goal.put_chunks-at-requires
put_chunks-at-requires c =
    let a = c.args in
    let l = report-room a.s.now a.ws.now a.t c.requires.t_value a.reply in
    let b = c.put_head-at.ensures in
    let d = c.put32-at.ensures in
    let e = c.put_signatures-at.ensures in
    let f = c.put_slots-at.ensures in
    record { finished = (record { ended = c.requires.ended; faultless = c.requires.faultless; tables = c.requires.t_value }); tag_in_bounds = omega (arith, l, c.requires.reply_in_bounds, b.next, same-long b, d.next, same-long d, e.next, same-long e, f.next, same-long f) }

pub put_chunks-at-requires-2 : goal.put_chunks-at-requires-2
put_chunks-at-requires-2 c =
    let a = c.args in
    let l = report-room a.s.now a.ws.now a.t c.requires.t_value a.reply in
    let b = c.put_head-at.ensures in
    let d = c.put32-at.ensures in
    let e = c.put_signatures-at.ensures in
    let f = c.put_slots-at.ensures in
    let g = c.put_chunks-at.ensures in
    record { finished = (record { ended = c.requires.ended; faultless = c.requires.faultless; tables = c.requires.t_value }); tag_in_bounds = omega (arith, l, c.requires.reply_in_bounds, b.next, same-long b, d.next, same-long d, e.next, same-long e, f.next, same-long f, g.next, same-long g) }

pub put_chunks-requires : goal.put_chunks-requires
put_chunks-requires c =
    let a = c.args in
    let l = report-room a.s.now a.ws.now a.t c.requires.t_value a.reply in
    let b = c.put_head-at.ensures in
    let d = c.put32-at.ensures in
    let e = c.put_signatures-at.ensures in
    let f = c.put_slots-at.ensures in
    let g = c.put_chunks-at.ensures in
    let h = c.put_chunks-at-2.ensures in
    record { finished = (record { ended = c.requires.ended; faultless = c.requires.faultless; tables = c.requires.t_value }); tag_in_bounds = omega (arith, l, c.requires.reply_in_bounds, b.next, same-long b, d.next, same-long d, e.next, same-long e, f.next, same-long f, g.next, same-long g, h.next, same-long h) }

pub shape_of-buf : goal.shape_of-buf
shape_of-buf c =
    same-long c.put_chunks.ensures ∙ same-long c.put_chunks-at-2.ensures ∙ same-long c.put_chunks-at.ensures
    ∙ same-long c.put_slots-at.ensures ∙ same-long c.put_signatures-at.ensures ∙ same-long c.put32-at.ensures ∙ same-long c.put_head-at.ensures

pub returns : goal.returns
returns c =
    let a = c.args in
    (said
    (and_then c.put_head-at.ensures
    (and_then c.put32-at.ensures
    (and_then c.put_signatures-at.ensures
    (and_then c.put_slots-at.ensures
    (and_then c.put_chunks-at.ensures (and_then c.put_chunks-at-2.ensures c.put_chunks.ensures))))))
    (report-parts a.s.now a.ws.now a.t c.requires.t_value a.reply)).bytes
