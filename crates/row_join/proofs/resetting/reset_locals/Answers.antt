-- `row_join::resetting::reset_locals` meets its contract. The loop's invariant: the first k locals have arrived.
use Rattle.row_join.proofs.places.Laws.{arrived-none, row_more}
use Rattle.row_join.specs.joining.Left.{reset_at}
use Rattle.definition.specs.Module.{row}
use mathlib.Core.Path.{◌≡◌, refl, ◌∙◌}
use native.Mathlib.Omega.{arith}
use Prim.Native.Nat.{◌-◌}
use Rattle.row_join.proofs.resetting.reset_locals.Goals as goal

pub loop-k-init : goal.loop-k-init
unfolding row
loop-k-init c = arrived-none c.args.fresh c.args.to c.args.ws.now

pub loop-k-preserved : goal.loop-k-preserved
loop-k-preserved c =
    let a = c.args in
    let l = c.loop-k in
    row_more (reset_at a.streams a.reply) a.fresh a.to l.k a.ws.now l.ws _ l.changed _ l.invariant (rw c.reset_cell.ensures at c.join_one-changed.ensures)

pub returns : goal.returns
returns c =
    let e : c.loop-k.k ≡ c.args.n = omega arith in
    rw (← e) c.loop-k.invariant
