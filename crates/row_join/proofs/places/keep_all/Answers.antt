-- `row_join::places::keep_all` meets its contract. The loop's invariant: the first p cells have arrived, and no word behind them has changed.
use Rattle.row_join.specs.places.Arrive.{kept_cell}
use Rattle.row_join.proofs.places.Laws.{arrived-none, places-at, kept_more}
use Rattle.words.specs.Rows.{cells_at}
use mathlib.Core.Path.{◌≡◌, refl, ◌∙◌}
use native.Mathlib.Omega.{arith}
use Prim.Native.Nat.{◌-◌}
use Rattle.row_join.proofs.places.keep_all.Goals as goal

pub loop-p-init : goal.loop-p-init
unfolding cells_at
loop-p-init c = arrived-none c.args.fresh c.args.to c.args.ws.now

pub keep_one-changed-requires : goal.keep_one-changed-requires
keep_one-changed-requires c =
    let a = c.args in
    places-at a.ws.now _ a.from a.to a.n c.loop-p.p c.requires c.loop-p-test.true c.loop-p.auto.ws

pub loop-p-preserved : goal.loop-p-preserved
loop-p-preserved c =
    let a = c.args in
    let l = c.loop-p in
    kept_more (kept_cell a.forget a.narrow) a.fresh a.from a.to a.n l.p a.ws.now l.ws _ l.changed _ c.requires c.loop-p-test.true l.invariant c.keep_one-changed.ensures

pub returns : goal.returns
returns c =
    let e : c.loop-p.p ≡ c.args.n = omega arith in
    rw (← e) c.loop-p.invariant
