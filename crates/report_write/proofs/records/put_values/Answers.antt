-- `report_write::records::put_values` meets its contract.
use native.Mathlib.Omega.{arith}
use mathlib.Core.Path.{ap}
use Rattle.le.proofs.Laws.{and_then, same_length as same-long}
use Rattle.report_cells.proofs.Laws.{said}
use Rattle.definition.specs.declared.Made.{Made}
use Rattle.definition.specs.Module.{row}
use Rattle.definition.specs.Outputs.{output}
use Rattle.definition.specs.Report.{placed, outputs_bytes}
use Rattle.layout.proofs.Read.{locals-is}
use Rattle.report_write.proofs.records.Writes.{exact}
use Rattle.report_write.specs.records.Values.{values_in}
use Rattle.report_write.proofs.records.Values.{values-long, values-room, stack-here, locals-here}
use Rattle.report_write.proofs.records.put_values.Goals as goal

pub place_at-requires : goal.place_at-requires
place_at-requires c =
    let a = c.args in
    let x = c.requires.asking.looking in
    let m = values-room a.s.now a.ws.now a.v x a.ch c.requires.ch_value in
    let l = values-long a.s.now a.ws.now a.v x in
    let n = locals-is a.s.now a.ws.now a.v.chunk a.ch c.requires.ch_value in
    omega (arith, m.2)

pub put_cells-at-requires : goal.put_cells-at-requires
put_cells-at-requires c =
    let a = c.args in
    let x = c.requires.asking.looking in
    let m = values-room a.s.now a.ws.now a.v x a.ch c.requires.ch_value in
    let l = values-long a.s.now a.ws.now a.v x in
    let n = locals-is a.s.now a.ws.now a.v.chunk a.ch c.requires.ch_value in
    record { n_in_bounds = omega (arith, m.0, c.place_at.ensures); n_in_bounds_2 = omega (arith, l, c.requires.v_in_bounds) }

pub local_at-requires : goal.local_at-requires
local_at-requires c =
    let a = c.args in
    let x = c.requires.asking.looking in
    let m = values-room a.s.now a.ws.now a.v x a.ch c.requires.ch_value in
    let l = values-long a.s.now a.ws.now a.v x in
    let n = locals-is a.s.now a.ws.now a.v.chunk a.ch c.requires.ch_value in
    omega (arith, m.2)

pub put_cells-at-requires-2 : goal.put_cells-at-requires-2
put_cells-at-requires-2 c =
    let a = c.args in
    let x = c.requires.asking.looking in
    let m = values-room a.s.now a.ws.now a.v x a.ch c.requires.ch_value in
    let l = values-long a.s.now a.ws.now a.v x in
    let n = locals-is a.s.now a.ws.now a.v.chunk a.ch c.requires.ch_value in
    let w = c.put_cells-at.ensures in
    record { n_in_bounds = omega (arith, m.1, c.local_at.ensures); n_in_bounds_2 = omega (arith, l, n, c.requires.v_in_bounds, w.next, same-long w) }

pub put_outputs-at-requires : goal.put_outputs-at-requires
put_outputs-at-requires c =
    let a = c.args in
    let x = c.requires.asking.looking in
    let m = values-room a.s.now a.ws.now a.v x a.ch c.requires.ch_value in
    let l = values-long a.s.now a.ws.now a.v x in
    let n = locals-is a.s.now a.ws.now a.v.chunk a.ch c.requires.ch_value in
    let w = c.put_cells-at.ensures in
    let u = c.put_cells-at-2.ensures in
    record { given_bound = m.3; given_in_bounds = omega (arith, l, n, c.requires.v_in_bounds, w.next, same-long w, u.next, same-long u) }

pub put_guards-requires : goal.put_guards-requires
put_guards-requires c =
    let a = c.args in
    let x = c.requires.asking.looking in
    let m = values-room a.s.now a.ws.now a.v x a.ch c.requires.ch_value in
    let l = values-long a.s.now a.ws.now a.v x in
    let n = locals-is a.s.now a.ws.now a.v.chunk a.ch c.requires.ch_value in
    let w = c.put_cells-at.ensures in
    let u = c.put_cells-at-2.ensures in
    let o = c.put_outputs-at.ensures in record { asking = c.requires.asking; t_value = c.requires.t_value; v_in_bounds = omega (arith, l, n, c.requires.v_in_bounds, w.next, same-long w, u.next, same-long u, o.next, same-long o) }

pub returns : goal.returns
unfolding values_in
returns c =
    let a = c.args in
    let e = c.requires.ch_value in
    exact
    (and_then (said c.put_cells-at.ensures (stack-here a.s.now a.ws.now a.v a.ch e c.place_at.result c.place_at.ensures))
    (and_then (said c.put_cells-at-2.ensures (locals-here a.s.now a.ws.now a.v a.ch e c.local_at.result c.local_at.ensures))
    (and_then (said c.put_outputs-at.ensures (ap (λ (m : Made). outputs_bytes (placed a.v.start (row (output m) 0 a.v.ins.given))) c.made_at.ensures))
    c.put_guards.ensures)))
