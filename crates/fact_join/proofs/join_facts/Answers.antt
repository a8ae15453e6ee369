-- `fact_join::join_facts` meets its contract. The loop's invariant: the first k cells have arrived.
use mathlib.Core.Bool.{false}
use mathlib.Core.Path.{◌≡◌}
use native.Mathlib.Omega.{arith}
use Rattle.row_join.proofs.places.Laws.{arrived-none, kept_more}
use Rattle.words.specs.Rows.{cells_at}
use Rattle.cells.specs.Cell.{bare_cell}
use Rattle.fact_join.proofs.join_facts.Goals as goal

pub loop-k-init : goal.loop-k-init
unfolding cells_at
loop-k-init c = arrived-none false c.args.to c.args.ws.now

pub loop-k-preserved : goal.loop-k-preserved
loop-k-preserved c =
    let a = c.args in
    let l = c.loop-k in
    kept_more bare_cell false a.from a.to a.n l.k a.ws.now l.ws _ l.moved _ c.requires c.loop-k-test.true l.invariant
    (rw (c.bare.ensures, c.load-c.ensures) at c.join_one-moved.ensures)

pub returns : goal.returns
returns c =
    let e : c.loop-k.k ≡ c.args.n = omega arith in
    rw (← e) c.loop-k.invariant
