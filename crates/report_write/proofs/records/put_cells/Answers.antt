-- `report_write::records::put_cells` meets its contract. Invariant: k cells are written.
use native.Mathlib.Omega.{arith}
use mathlib.Core.Path.{◌≡◌}
use Rattle.le.proofs.Laws.{and_then, resize, same_length as same-long}
use Rattle.report_cells.proofs.Laws.{said}
use Rattle.report_write.proofs.records.Writes.{wrote_none, cells-none, cells-more}
use Rattle.report_write.proofs.records.put_cells.Goals as goal

pub loop-k-init : goal.loop-k-init
loop-k-init c =
    let a = c.args in
    said (wrote_none _ a.at) (cells-none a.ws.now a.word)

pub overflow_mul-k : goal.overflow_mul-k
overflow_mul-k c = omega (arith, c.requires.n_in_bounds, c.loop-k-test.true)

pub overflow_add-word : goal.overflow_add-word
overflow_add-word c = omega (arith, c.requires.n_in_bounds, c.loop-k-test.true)

pub put_stored-to-requires : goal.put_stored-to-requires
put_stored-to-requires c =
    let i = c.loop-k.invariant in
    record { word_in_bounds = omega (arith, c.requires.n_in_bounds, c.loop-k-test.true); at_in_bounds = omega (arith, c.requires.n_in_bounds_2, c.loop-k-test.true, i.next, same-long i) }

pub loop-k-preserved : goal.loop-k-preserved
loop-k-preserved c =
    let a = c.args in
    let i = c.loop-k.invariant in
    resize (said (and_then i c.put_stored-to.ensures) (cells-more a.ws.now a.word c.loop-k.k)) (omega arith)

pub returns : goal.returns
returns c =
    let a = c.args in
    let i = c.loop-k.invariant in
    let e : c.loop-k.k ≡ a.n = omega (arith, c.loop-k.auto.k-end, c.loop-k-test.false) in
    rw e at i
