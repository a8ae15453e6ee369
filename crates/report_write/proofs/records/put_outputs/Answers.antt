-- `report_write::records::put_outputs` meets its contract. Invariant: k outputs are written.
use Prim.Native.Nat.{◌+◌}
use native.Mathlib.Omega.{arith}
use mathlib.Core.Path.{◌≡◌, ap}
use Rattle.le.proofs.Laws.{and_then, resize, same_length as same-long}
use Rattle.report_cells.proofs.Laws.{said}
use Rattle.definition.specs.Outputs.{output}
use Rattle.definition.specs.Report.{cell_bytes}
use Rattle.report_write.proofs.records.Writes.{wrote_none, low16, outputs-none, outputs-more}
use Rattle.report_write.proofs.records.put_outputs.Goals as goal

pub loop-k-init : goal.loop-k-init
loop-k-init c =
    let a = c.args in
    said (wrote_none _ a.at) (outputs-none (output a.made) a.v.start)

pub overflow_add-v : goal.overflow_add-v
overflow_add-v c = omega (arith, c.requires.given_bound, c.loop-k-test.true)

pub put16-to-requires : goal.put16-to-requires
put16-to-requires c = let i = c.loop-k.invariant in omega (arith, c.requires.given_in_bounds, c.loop-k-test.true, i.next, same-long i)

pub put_cell-to-requires : goal.put_cell-to-requires
put_cell-to-requires c =
    let i = c.loop-k.invariant in
    omega (arith, c.requires.given_in_bounds, c.loop-k-test.true, i.next, same-long i, c.put16-to.ensures.next, same-long c.put16-to.ensures)

pub loop-k-preserved : goal.loop-k-preserved
loop-k-preserved c =
    let a = c.args in
    let i = c.loop-k.invariant in
    let k = c.loop-k.k in
    resize
    (said
    (and_then i
    (and_then (said c.put16-to.ensures (low16 (a.v.start + k) (omega (arith, c.requires.given_bound, c.loop-k-test.true))))
    (said c.put_cell-to.ensures (ap cell_bytes c.output.ensures))))
    (outputs-more (output a.made) a.v.start k))
    (omega arith)

pub returns : goal.returns
returns c =
    let a = c.args in
    let i = c.loop-k.invariant in
    let e : c.loop-k.k ≡ a.v.ins.given = omega (arith, c.loop-k.auto.k-end, c.loop-k-test.false) in
    rw e at i
